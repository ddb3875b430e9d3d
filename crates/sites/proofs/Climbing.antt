-- Letters of one rung after the other: what the first that can be read tells, and when it is the true difference.
use Rattle.std.proofs.Common.{◌≡◌, ℕ, zero, suc, ◌+◌, ◌-◌, ◌*◌, ◌<◌, ◌≤◌, true, ◌⊎◌, List, [], ◌∷◌, get_or, drop, Ok, Err, Result, is_ok, sym, refl, subst, inl, inr, arith, MatchResult}
use Rattle.std.proofs.lemmas.List.{drop_all, drop_more}
use Rattle.std.proofs.lemmas.Bool.Decides.{nat_tests}
use Rattle.std.proofs.lemmas.Bool.{cases_order}
use Rattle.field.specs.Prime.{Prime}
use Rattle.sorted.specs.Lists.{has, rising, all_below, only, differ}
use Rattle.sorted.proofs.Members.{has_first, has_later}
use Rattle.letter.specs.Letter.{letter}
use Rattle.explain.specs.Explanation.{Found, TooMany, these}
use Rattle.letter.specs.declared.refusals.Refusal.{Refusal}
use Rattle.decode.specs.Beside.{ToldBy, Unread}
use Rattle.decode.proofs.Evaluation.{below_weaker}
use Rattle.sites.specs.Ladder.{rungs, SaysMore, Reads, Answers, Unanswered, Truthful, gone_of, come_of}
use Rattle.sites.specs.declared.ladder.Reading.{Reading}
use Rattle.sites.proofs.Bringing.{told_true, far_untold, too_many_none}

-- after i rungs, with `sent` values sent: what is left to ask gives what all give
pub record Climbing (p : ℕ) (there here : List ℕ) (i sent : ℕ) : Type 0 where
  pub answers : (r : Reading) → Answers p there here (drop i rungs) sent r → Answers p there here rungs 0 r
  pub none : Unanswered p there here (drop i rungs) → Unanswered p there here rungs
  pub small : sent ≤ 64 * i

pub climbing_none : (p : ℕ) (there here : List ℕ) → Climbing p there here 0 0
climbing_none p there here = record { answers = λ r h. h; none = λ h. h; small = omega arith }

pub rung_small : (i : ℕ) → i < 5 → (1 ≤ get_or rungs i 0) × (get_or rungs i 0 ≤ 64)
rung_small zero inside = (omega arith, omega arith)
rung_small (suc zero) inside = (omega arith, omega arith)
rung_small (suc (suc zero)) inside = (omega arith, omega arith)
rung_small (suc (suc (suc zero))) inside = (omega arith, omega arith)
rung_small (suc (suc (suc (suc zero)))) inside = (omega arith, omega arith)
rung_small (suc (suc (suc (suc (suc i))))) inside = absurd (omega arith)

-- a rung says that more differ
pub climbing_more : (p : ℕ) (there here : List ℕ) (i sent : ℕ)
    → Climbing p there here i sent
    → i < 5
    → SaysMore p there here (get_or rungs i 0)
    → Climbing p there here (i + 1) (sent + get_or rungs i 0)
unfolding Answers Unanswered
climbing_more p there here i sent so_far inside more =
    let from : drop i rungs ≡ get_or rungs i 0 ∷ drop (i + 1) rungs = drop_more rungs i 0 inside in
    record {
      answers = λ r h. so_far.answers r (subst (λ (ms : List ℕ). Answers p there here ms sent r) (sym from) (inr (more, h)));
      none = λ h. so_far.none (subst (λ (ms : List ℕ). Unanswered p there here ms) (sym from) (more, h));
      small = omega (arith, so_far.small, (rung_small i inside).1);
    }

-- a rung is read
pub climbing_read : (p : ℕ) (there here : List ℕ) (i sent : ℕ) (r : Reading)
    → Climbing p there here i sent
    → i < 5
    → Reads p there here (get_or rungs i 0) sent r
    → Answers p there here rungs 0 r
unfolding Answers
climbing_read p there here i sent r so_far inside reads =
    so_far.answers r (subst (λ (ms : List ℕ). Answers p there here ms sent r) (sym (drop_more rungs i 0 inside)) (inl reads))

pub climbing_end : (p : ℕ) (there here : List ℕ) (i sent : ℕ) → Climbing p there here i sent → 5 ≤ i → Unanswered p there here rungs
unfolding Unanswered
climbing_end p there here i sent so_far ended =
    so_far.none (subst (λ (ms : List ℕ). Unanswered p there here ms) (sym (drop_all i rungs ended)) tt)

-- a letter is always read with an allowance up to its values, at sites that keep sixty-four values
unread_up_to : (m n k d : ℕ) (e : Refusal) → m ≤ 64 → d ≤ m → n ≡ m → k ≡ 64 → Unread n d k e → ⊥
unfolding Unread
unread_up_to m n k d e few allowed is size (inl (told, short)) = omega arith
unread_up_to m n k d e few allowed is size (inr (told, (kept, over))) = omega arith

-- a rung is always read
pub rung_unread : (m n k : ℕ) (e : Refusal) → 1 ≤ m → m ≤ 64 → n ≡ m → k ≡ 64 → Unread n (m - 1) k e → ⊥
rung_unread m n k e some few is size = unread_up_to m n k (m - 1) e few (omega arith) is size

pub always_read : {A : Type 0} (P : A → Type 0) (m n k d : ℕ) (r : Result A Refusal)
    → m ≤ 64
    → d ≤ m
    → n ≡ m
    → k ≡ 64
    → MatchResult r P (Unread n d k)
    → is_ok r ≡ true
always_read P m n k d (Ok x) few allowed is size read = refl
always_read P m n k d (Err e) few allowed is size unread = absurd (unread_up_to m n k d e few allowed is size unread)

rung_fits : (m : ℕ) → has rungs m ≡ true → (1 ≤ m) × (m ≤ 64)
unfolding has
rung_fits m h = (grind (arith, nat_tests), grind (arith, nat_tests))

-- no rung is taken in by up to six differences
pub near_truthful : (p : ℕ) (there here : List ℕ) → differ there here ≤ 6 → Truthful p there here
unfolding Truthful has
near_truthful p there here near m h far = let low : 4 ≤ m = grind (arith, nat_tests) in absurd (omega arith)

-- two lists at sites that keep sixty-four values
module _ (p : ℕ) (there here : List ℕ)
    (prime : ∥ Prime p ∥₁) (room : 64 < p)
    (r : rising there ≡ true) (s : rising here ≡ true)
    (small : all_below (p - 64) there ≡ true) (small' : all_below (p - 64) here ≡ true) where
  below : (m : ℕ) (ns : List ℕ) → m ≤ 64 → all_below (p - 64) ns ≡ true → all_below (p - m) ns ≡ true
  below m ns few low = below_weaker (p - 64) (p - m) ns (omega arith) low

  -- a rung that is read within its reach tells the true difference
  read_true : (m sent : ℕ) (x : Reading)
      → 1 ≤ m
      → m ≤ 64
      → (m + 2 < differ there here → SaysMore p there here m)
      → Reads p there here m sent x
      → (gone_of x ≡ only here there) × (come_of x ≡ only there here) × (differ there here < m)
  unfolding SaysMore TooMany
  read_true m sent x some few truthful reads = go (cases_order (differ there here) m)
    where
      told : ToldBy p m (m - 1) (letter p m there) here (gone_of x) (come_of x)
      told = reads.told

      found : Found p m (m - 1) (letter p m there) here (gone_of x) (come_of x)
      found = told.found

      beyond : (m ≤ differ there here) → ⊥
      beyond far = elsewhere (cases_order (m + 2) (differ there here))
        where
          near : differ there here ≤ m + 2 → ⊥
          near close =
              far_untold p m (m - 1) there here (gone_of x) (come_of x) prime (omega arith) (omega arith) r s (below m there few small)
              (below m here few small') (omega arith) (omega arith) found

          elsewhere : (m + 2 ≡ differ there here) ⊎ ((m + 2 < differ there here) ⊎ (differ there here < m + 2)) → ⊥
          elsewhere (inl same) = near (omega arith)
          elsewhere (inr (inl away)) = out found
            where
              out : Found p m (m - 1) (letter p m there) here (gone_of x) (come_of x) → ⊥
              out (these one size) = truthful away (gone_of x) (come_of x) one size
          elsewhere (inr (inr close)) = near (omega arith)

      go : (differ there here ≡ m) ⊎ ((differ there here < m) ⊎ (m < differ there here))
          → (gone_of x ≡ only here there) × (come_of x ≡ only there here) × (differ there here < m)
      go (inl same) = absurd (beyond (omega arith))
      go (inr (inr away)) = absurd (beyond (omega arith))
      go (inr (inl close)) =
          let same = told_true p m (m - 1) there here (gone_of x) (come_of x) r s (below m there few small) told (omega arith) in
          (same.0, same.1, close)

  -- the same of the first of several rungs that is read
  answers_true : (ms : List ℕ) (sent : ℕ) (x : Reading)
      → ((m : ℕ) → has ms m ≡ true → (1 ≤ m) × (m ≤ 64))
      → ((m : ℕ) → has ms m ≡ true → m + 2 < differ there here → SaysMore p there here m)
      → Answers p there here ms sent x
      → (gone_of x ≡ only here there) × (come_of x ≡ only there here) × (differ there here < 64)
  unfolding Answers
  answers_true [] sent x fits truthful answers = absurd answers
  answers_true (m ∷ ms) sent x fits truthful (inl reads) =
      let fit = fits m (has_first m ms) in
      let same = read_true m sent x fit.0 fit.1 (truthful m (has_first m ms)) reads in
      (same.0, same.1, omega (arith, same.2, fit.1))
  answers_true (m ∷ ms) sent x fits truthful (inr later) =
      answers_true ms (sent + m) x (λ k h. fits k (has_later m k ms h)) (λ k h. truthful k (has_later m k ms h)) later.1

  pub climbed_true : (x : Reading)
      → Truthful p there here
      → Answers p there here rungs 0 x
      → (gone_of x ≡ only here there) × (come_of x ≡ only there here) × (differ there here < 64)
  unfolding Truthful
  climbed_true x truthful answers = answers_true rungs 0 x rung_fits truthful answers

  -- the longest letter tells up to sixty-three differences
  pub climbed_somewhere : differ there here ≤ 63 → Unanswered p there here rungs → ⊥
  unfolding Unanswered SaysMore
  climbed_somewhere near none = too_many_none p 64 63 there here r s small near none.1.1.1.1.0
