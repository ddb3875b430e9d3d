-- Two desks and one letter: what the explanation that is told does to the list here, and when it is the true difference.
use Rattle.std.proofs.Common.{◌≡◌, ℕ, ◌+◌, ◌-◌, ◌*◌, ◌<◌, ◌≤◌, true, ◌⊎◌, List, length, Some, None, Ok, Err, Option, sym, ap, ◌∙◌, subst, inl, inr, arith}
use mathlib.Core.Logic.{∥∥₁_elim}
use mathlib.Core.HLevel.{⊥_prop}
use Rattle.std.proofs.lemmas.Bool.Decides.{nat_tests}
use Rattle.field.specs.Prime.{Prime}
use Rattle.sorted.specs.Lists.{has, rising, all_below, only, differ, without_all, brought}
use Rattle.sorted.proofs.Members.{has_below}
use Rattle.sorted.proofs.Difference.{only_has, only_all}
use Rattle.sorted.proofs.Distance.{only_lengths, without_all_only, brought_there}
use Rattle.letter.specs.Desks.{Told, desk_of, desk_size}
use Rattle.letter.specs.declared.desks.Desk.{Desk as Kept}
use Rattle.letter.proofs.Keeping.{up_to_date}
use Rattle.letter.specs.Exchanges.{Stopped, replacing}
use Rattle.letter.specs.Letter.{Desk, Letter, letter, points}
use Rattle.letter.specs.Letters.{letter_of}
use Rattle.letter.specs.declared.letters.Letter.{Letter as Sent}
use Rattle.letter.proofs.Pointwise.{length_values}
use Rattle.letter.proofs.Points.{length_points}
use Rattle.letter.specs.declared.refusals.Refusal.{Refusal}
use Rattle.letter.specs.declared.refusals.Refusal.TheVariants.{Memory}
use Rattle.letter.proofs.Halting.{Halts, replacing_stop}
use Rattle.explain.specs.Explanation.{Explains, Found, TooMany, these}
use Rattle.explain.proofs.Reading.{true_difference_explains, read_too_many}
use Rattle.explain.proofs.Subsets.{all_in_has, none_in_has}
use Rattle.decode.specs.Beside.{ToldBy, Differs, Read, Unread}
use Rattle.decode.specs.declared.numbers.Difference.{Difference}
use Rattle.decode.specs.Numbers.{listed}
use Rattle.decode.proofs.Evaluation.{below_weaker, numbers_length}
use Rattle.sites.specs.Together.{Outcome, AskedWell, Unasked, Unbrought, TogetherSays, Truly}

pub found_explains : (p m d : ℕ) (l : Letter) (list gone come : List ℕ) → Found p m d l list gone come → Explains p m l list gone come
found_explains p m d l list gone come (these one few) = one

-- what is left of a list when numbers of it go
pub left_length : (gone here : List ℕ)
    → rising gone ≡ true
    → rising here ≡ true
    → ((n : ℕ) → has gone n ≡ true → has here n ≡ true)
    → length (without_all gone here) + length gone ≡ length here
left_length gone here up rises inside =
    omega
    (arith, ap length (without_all_only here gone rises), only_lengths here gone rises up, ap length (only_all gone here inside))

-- numbers that explain a letter can all go, and can all come but for three reasons
pub explained_halts : (p m j : ℕ) (l : Letter) (here gone come : List ℕ) (e : Refusal)
    → rising here ≡ true
    → Explains p m l here gone come
    → Stopped p j here (replacing gone come) e
    → Halts p j (without_all gone here) come e
explained_halts p m j l here gone come e rises one stopped =
    replacing_stop p j gone come here e one.gone_rising one.come_rising rises
    (λ n h. all_in_has gone here n one.gone_here h)
    (λ n h. none_in_has come here n one.come_not h)
    stopped

-- of a letter of a list that fits a desk, two reasons are left: the list here becomes as long as the list there
pub unbrought : (p m d j : ℕ) (there here gone come : List ℕ) (e : Refusal)
    → rising here ≡ true
    → length there ≤ 60000
    → ToldBy p m d (letter p m there) here gone come
    → (e ≡ Memory) ⊎ Stopped p j here (replacing gone come) e
    → Unbrought p m d there j here e
unfolding letter
unbrought p m d j there here gone come e rises few told why = record { gone = gone; come = come; told = told; why = go why }
  where
    one : Explains p m (letter p m there) here gone come
    one = found_explains p m d (letter p m there) here gone come told.found

    left : length (without_all gone here) + length gone ≡ length here
    left = left_length gone here one.gone_rising rises (λ n h. all_in_has gone here n one.gone_here h)

    narrow : Halts p j (without_all gone here) come e → (e ≡ Memory) ⊎ ((n : ℕ) × (Told 5 n e × (has come n ≡ true) × (p - j ≤ n)))
    narrow (inl memory) = inl memory
    narrow (inr (inl five)) = inr five
    narrow (inr (inr (seven, many))) = absurd (omega (arith, many, left, one.count))

    go : (e ≡ Memory) ⊎ Stopped p j here (replacing gone come) e → (e ≡ Memory) ⊎ ((n : ℕ) × (Told 5 n e × (has come n ≡ true) × (p - j ≤ n)))
    go (inl memory) = inl memory
    go (inr stopped) = narrow (explained_halts p m j (letter p m there) here gone come e rises one stopped)

-- the true difference is found, where it is small enough
pub true_found : (p m d : ℕ) (there here : List ℕ)
    → rising there ≡ true
    → rising here ≡ true
    → all_below (p - m) there ≡ true
    → differ there here ≤ d
    → Found p m d (letter p m there) here (only here there) (only there here)
unfolding differ
true_found p m d there here r s small near = these (true_difference_explains p m there here r s small) (omega arith)

-- and then it is what is told
pub told_true : (p m d : ℕ) (there here gone come : List ℕ)
    → rising there ≡ true
    → rising here ≡ true
    → all_below (p - m) there ≡ true
    → ToldBy p m d (letter p m there) here gone come
    → differ there here ≤ d
    → (gone ≡ only here there) × (come ≡ only there here) × (brought here gone come ≡ there)
told_true p m d there here gone come r s small told near =
    let same = told.alone (only here there) (only there here) (true_found p m d there here r s small near) in (
      sym same.0,
      sym same.1,
      ap (λ t. brought here t come) (sym same.0) ∙ ap (λ t. brought here (only here there) t) (sym same.1) ∙ brought_there there here r s,
    )

-- and where more differ, up to 2 m + 1 - d, nothing is told
pub far_untold : (p m d : ℕ) (there here gone come : List ℕ)
    → ∥ Prime p ∥₁
    → d ≤ m
    → m ≤ p
    → rising there ≡ true
    → rising here ≡ true
    → all_below (p - m) there ≡ true
    → all_below (p - m) here ≡ true
    → d < differ there here
    → differ there here + d ≤ 2 * m + 1
    → Found p m d (letter p m there) here gone come
    → ⊥
unfolding TooMany
far_untold p m d there here gone come prime enough inside r s small small' far near (these one few) =
    ∥∥₁_elim prime ⊥_prop (λ (pr : Prime p). read_too_many p m d there here pr enough inside r s small small' far near gone come one few)

-- "more" is not told where the true difference is small enough
pub too_many_none : (p m d : ℕ) (there here : List ℕ)
    → rising there ≡ true
    → rising here ≡ true
    → all_below (p - m) there ≡ true
    → differ there here ≤ d
    → TooMany p m d (letter p m there) here
    → ⊥
unfolding TooMany differ
too_many_none p m d there here r s small near none =
    none (only here there) (only there here) (true_difference_explains p m there here r s small) (omega arith)

-- between desks that keep as many values, what truly differs may come
unhindered : (p m d k : ℕ) (there here : List ℕ) (j : ℕ) (e : Refusal)
    → rising there ≡ true
    → rising here ≡ true
    → all_below (p - k) there ≡ true
    → differ there here ≤ d
    → AskedWell m d k j
    → k ≡ j
    → Unasked m d k j e ⊎ (AskedWell m d k j × Unbrought p m d there j here e)
    → e ≡ Memory
unfolding Unasked
unhindered p m d k there here j e r s small near well equal (inl (inl (told, inl short))) = absurd (omega (arith, well.there))
unhindered p m d k there here j e r s small near well equal (inl (inl (told, inr short))) = absurd (omega (arith, well.here))
unhindered p m d k there here j e r s small near well equal (inl (inr (told, over))) = absurd (omega (arith, over.2, well.allowed))
unhindered p m d k there here j e r s small near well equal (inr (asked, stuck)) = go stuck.why
  where
    same : (stuck.gone ≡ only here there) × (stuck.come ≡ only there here) × (brought here stuck.gone stuck.come ≡ there)
    same =
        told_true p m d there here stuck.gone stuck.come r s (below_weaker (p - k) (p - m) there (omega (arith, well.there)) small) stuck.told near

    go : (e ≡ Memory) ⊎ ((n : ℕ) × (Told 5 n e × (has stuck.come n ≡ true) × (p - j ≤ n))) → e ≡ Memory
    go (inl memory) = memory
    go (inr (n, (told, comes, large))) =
        let a = ap (λ t. has t n) same.1 in
        let b = only_has there here n in
        let inside : has there n ≡ true = grind (arith, nat_tests) in
        absurd (omega (arith, has_below (p - k) n there inside small))

truly : (p m d : ℕ) (there : List ℕ) (k : ℕ) (here : Desk) (j : ℕ) (here₁ : Desk) (o : Outcome)
    → ∥ Prime p ∥₁
    → k < p
    → rising there ≡ true
    → rising here.list ≡ true
    → all_below (p - k) there ≡ true
    → all_below (p - j) here.list ≡ true
    → TogetherSays p m d there k here j here₁ o
    → Truly p m d there k here j here₁ o
truly p m d there k here j here₁ (Ok (Some f)) prime room r s small small' says =
    let asked = says.0 in
    let below = below_weaker (p - k) (p - m) there (omega (arith, asked.there)) small in
    record {
      near = λ close.
          let same = told_true p m d there here.list (listed f.gone) (listed f.come) r s below says.1.told close in
          (same.0, same.1, says.1.list_is ∙ same.2);
      far = λ apart close.
          far_untold p m d there here.list (listed f.gone) (listed f.come) prime asked.allowed (omega (arith, asked.there)) r s below
          (below_weaker (p - j) (p - m) here.list (omega (arith, asked.here)) small') apart close says.1.told.found;
      unhindered = λ e close well equal is. let z : ◌≡◌ {A = ℕ} 0 1 = cc in absurd (omega arith);
    }
truly p m d there k here j here₁ (Ok None) prime room r s small small' says =
    let asked = says.0 in
    record {
      near = λ close.
          too_many_none p m d there here.list r s (below_weaker (p - k) (p - m) there (omega (arith, asked.there)) small) close says.1.0;
      far = λ apart close. tt;
      unhindered = λ e close well equal is. let z : ◌≡◌ {A = ℕ} 0 1 = cc in absurd (omega arith);
    }
truly p m d there k here j here₁ (Err e) prime room r s small small' says =
    record {
      near = λ close. tt;
      far = λ apart close. tt;
      unhindered = λ e' close well equal is.
          let same : e' ≡ e = cc in
          same ∙ unhindered p m d k there here.list j e r s small close well equal says.1;
    }

-- how many values a letter has that is the letter of a list with m values
pub letter_size : {p : ℕ} (m : ℕ) (l : Sent p) (ns : List ℕ) → letter_of l ≡ letter p m ns → l.values.len ≡ m
unfolding letter_of letter
letter_size {p} m l ns says =
    sym (numbers_length l.values) ∙ ap (λ (t : Letter). length t.at) says ∙ length_values p (points p m) ns ∙ length_points p m

-- why nothing was asked: the desk here keeps too few values, or the allowance is too large
pub unasked_here : (m n d k j : ℕ) (e : Refusal) → m ≤ k → n ≡ m → Unread n d j e → Unasked m d k j e
unfolding Unread Unasked
unasked_here m n d k j e enough is (inl (told, short)) = inl (told, inr (omega arith))
unasked_here m n d k j e enough is (inr (told, (kept, over))) = inr (told, (enough, omega (arith, kept), omega (arith, over)))

-- what was read at the desk here, of the letter of the list there
pub read_there : {p : ℕ} (m d : ℕ) (l : Sent p) (there here : List ℕ) (k j : ℕ) (o o' : Option Difference)
    → o ≡ o'
    → (m ≤ k) × (letter_of l ≡ letter p m there)
    → Read p l.values.len d (letter_of l) here j o
    → AskedWell m d k j × Differs p m d (letter p m there) here o'
read_there {p} m d l there here k j o o' same sent read =
    let size = letter_size m l there sent.1 in (
      record { there = sent.0; here = omega (arith, size, read.kept); allowed = omega (arith, size, read.allowed) },
      subst (λ (t : Letter). Differs p m d t here o') sent.1
          (subst (λ (t : ℕ). Differs p t d (letter_of l) here o') size
          (subst (λ (t : Option Difference). Differs p l.values.len d (letter_of l) here t) same read.says)),
    )

-- what is told of two desks is told truly
pub truly_told : {p : ℕ} (m d : ℕ) (there here : Kept p) (after : Desk) (o : Outcome)
    → TogetherSays p m d (desk_of there).list (desk_size there) (desk_of here) (desk_size here) after o
    → Truly p m d (desk_of there).list (desk_size there) (desk_of here) (desk_size here) after o
truly_told {p} m d there here after o says =
    truly p m d (desk_of there).list (desk_size there) (desk_of here) (desk_size here) after o there.modulus.prime there.room
    (up_to_date there).in_order (up_to_date here).in_order (up_to_date there).small (up_to_date here).small says

pub few_there : {p : ℕ} (d : Kept p) → length (desk_of d).list ≤ 60000
unfolding desk_of
few_there d = d.few

-- the same refusal, by other names for the numbers
pub replaced_by : (p m : ℕ) (ns gone gone' come come' : List ℕ) (e : Refusal)
    → gone ≡ gone'
    → come ≡ come'
    → (e ≡ Memory) ⊎ Stopped p m ns (replacing gone come) e
    → (e ≡ Memory) ⊎ Stopped p m ns (replacing gone' come') e
replaced_by p m ns gone gone' come come' e gone_is come_is why =
    subst (λ (t : List ℕ). (e ≡ Memory) ⊎ Stopped p m ns (replacing gone' t) e) come_is
    (subst (λ (t : List ℕ). (e ≡ Memory) ⊎ Stopped p m ns (replacing t come) e) gone_is why)
