-- Several deeds at a desk, one after the other.
use Rattle.std.proofs.Common.{◌≡◌, ℕ, suc, ◌+◌, ◌-◌, ◌*◌, ◌%◌, ◌^◌, ◌<◌, ◌≤◌, Bool, true, false, not, ◌&&◌, ltb, List, [], ◌∷◌, ◌++◌, length, map, get_or, drop, sym, refl, ap, ◌∙◌, subst, inl, inr, mod-eq_of_lt, arith, Ok, Err, Result, MatchResult}
use native.Mathlib.Nat.{mod-add-mod}
use Rattle.std.proofs.lemmas.List.{drop_all, drop_more, length-map}
use Rattle.std.proofs.lemmas.Bool.{lt-ltb}
use Rattle.sorted.specs.Lists.{has, rising, pick, put, without, put_all, without_all, brought}
use Rattle.sorted.proofs.Insertion.{put_put, put_rising, without_without, without_rising}
use Rattle.sorted.proofs.Union.{put_all_rising, without_all_rising}
use Rattle.letter.specs.Desks.{Came, NotCame, Went, NotWent, Stops, deed_of, DeedDone, DeedNotDone}
use Rattle.letter.specs.Exchanges.{next, final, Free, AllFree, Stopped, Done, NotDone, AllDone, Exchanged, NotExchanged, replacing}
use Rattle.letter.specs.Letter.{Desk, Deed, comes, goes, step, points, times_each, undo_each}
use Rattle.letter.specs.declared.desks.Deed.{Deed as Asked}
use Rattle.letter.specs.declared.desks.Deed.TheVariants.{Comes, Goes}
use Rattle.letter.specs.declared.refusals.Refusal.{Refusal}

-- the list after a step that is done
picked : (test : Bool) (taken left : Desk) → test ≡ true → (pick test taken left).list ≡ taken.list
picked test taken left is = ap (λ t. (pick t taken left).list) is

pub came_next : (p m n : ℕ) (before after : Desk)
    → n < p - m
    → has before.list n ≡ false
    → after ≡ step p m before (comes n)
    → after.list ≡ put n before.list
unfolding step
came_next p m n before after small new stepped =
    ap (λ (d : Desk). d.list) stepped
    ∙ picked (ltb n (p - m) && not (has before.list n))
    (record { list = put n before.list; letter_now = record { many = suc before.letter_now.many; at = times_each p (points p m) n before.letter_now.at } })
    before
    (ap (λ t. t && not (has before.list n)) (lt-ltb n (p - m) small) ∙ ap (λ t. true && not t) new)

pub went_next : (p m n : ℕ) (before after : Desk)
    → has before.list n ≡ true
    → after ≡ step p m before (goes n)
    → after.list ≡ without n before.list
unfolding step
went_next p m n before after there stepped =
    ap (λ (d : Desk). d.list) stepped
    ∙ picked (has before.list n)
    (record { list = without n before.list; letter_now = record { many = before.letter_now.many - 1; at = undo_each p (points p m) n before.letter_now.at } })
    before there

-- a deed at a desk is one of the list
pub deed_done : (p m : ℕ) (x : Asked) (before after : Desk) (start finish : ℕ)
    → DeedDone p m x before after start finish
    → Done p m (deed_of x) before.list after.list start finish
deed_done p m (Comes n) before after start finish came =
    record {
      free = (came.small, came.new, came.space);
      list_is = came_next p m n before after came.small came.new came.stepped;
      counted = came.counted;
    }
deed_done p m (Goes n) before after start finish went =
    record {
      free = went.there;
      list_is = went_next p m n before after went.there went.stepped;
      counted = went.counted;
    }

pub deed_stops : (p m : ℕ) (x : Asked) (before after : Desk) (start finish : ℕ) (e : Refusal)
    → DeedNotDone p m x before after start finish e
    → Stops p m before.list (deed_of x) e
deed_stops p m (Comes n) before after start finish e not = not.why
deed_stops p m (Goes n) before after start finish e not = (not.missing, not.told)

-- the same of a number that comes or goes, whether it is done or not
pub came_done : {U : Type 0} (p m n : ℕ) (before after : Desk) (start finish : ℕ) (r : Result U Refusal)
    → MatchResult r (λ _. Came p m n before after start finish) (NotCame p m n before after start finish)
    → MatchResult r (λ _. Done p m (comes n) before.list after.list start finish) (NotDone p m (comes n) before.list after.list)
came_done p m n before after start finish (Ok u) came = deed_done p m (Comes n) before after start finish came
came_done p m n before after start finish (Err e) not =
    record { stops = not.why; same = ap (λ (d : Desk). d.list) not.same }

pub went_done : {U : Type 0} (p m n : ℕ) (before after : Desk) (start finish : ℕ) (r : Result U Refusal)
    → MatchResult r (λ _. Went p m n before after start finish) (NotWent n before after start finish)
    → MatchResult r (λ _. Done p m (goes n) before.list after.list start finish) (NotDone p m (goes n) before.list after.list)
went_done p m n before after start finish (Ok u) went = deed_done p m (Goes n) before after start finish went
went_done p m n before after start finish (Err e) not =
    record { stops = (not.missing, not.told); same = ap (λ (d : Desk). d.list) not.same }

-- after i of the numbers ns passed the list is held: what is left to do from there gives what all give from before
pub record Underway (p m : ℕ) (w : ℕ → Deed) (ns before : List ℕ) (i : ℕ) (held : List ℕ) : Type 0 where
  pub free : AllFree p m held (map w (drop i ns)) → AllFree p m before (map w ns)
  pub ends : final held (map w (drop i ns)) ≡ final before (map w ns)
  pub stop : (e : Refusal) → Stopped p m held (map w (drop i ns)) e → Stopped p m before (map w ns) e

pub underway_none : (p m : ℕ) (w : ℕ → Deed) (ns before : List ℕ) → Underway p m w ns before 0 before
underway_none p m w ns before = record { free = λ h. h; ends = refl; stop = λ e h. h }

from_place : (w : ℕ → Deed) (ns : List ℕ) (i : ℕ)
    → i < length ns
    → map w (drop i ns) ≡ w (get_or ns i 0) ∷ map w (drop (i + 1) ns)
from_place w ns i inside = ap (map w) (drop_more ns i 0 inside)

-- the deed x is the one at place i
pub underway_more : (p m k : ℕ) (w : ℕ → Deed) (ns before : List ℕ) (i : ℕ) (x : Deed) (held after : List ℕ) (start finish : ℕ)
    → Underway p m w ns before i held
    → i < length ns
    → k ≡ m
    → x ≡ w (get_or ns i 0)
    → Done p k x held after start finish
    → Underway p m w ns before (i + 1) after
unfolding AllFree final Stopped
underway_more p m k w ns before i x held after start finish under inside size is done =
    let from : map w (drop i ns) ≡ x ∷ map w (drop (i + 1) ns) =
    from_place w ns i inside ∙ ap (λ t. t ∷ map w (drop (i + 1) ns)) (sym is) in
    let can : Free p m held x = subst (λ (t : ℕ). Free p t held x) size done.free in
    subst (λ (t : List ℕ). Underway p m w ns before (i + 1) t) (sym done.list_is)
    (record {
      free = λ rest. under.free (subst (λ (t : List Deed). AllFree p m held t) (sym from) (can, rest));
      ends = ap (final held) (sym from) ∙ under.ends;
      stop = λ e h. under.stop e (subst (λ (t : List Deed). Stopped p m held t e) (sym from) (inr (can, h)));
    })

pub underway_stop : (p m k : ℕ) (w : ℕ → Deed) (ns before : List ℕ) (i : ℕ) (x : Deed) (held : List ℕ) (e : Refusal)
    → Underway p m w ns before i held
    → i < length ns
    → k ≡ m
    → x ≡ w (get_or ns i 0)
    → Stops p k held x e
    → Stopped p m before (map w ns) e
unfolding Stopped
underway_stop p m k w ns before i x held e under inside size is stops =
    under.stop e
    (subst (λ (t : List Deed). Stopped p m held t e)
    (ap (λ t. t ∷ map w (drop (i + 1) ns)) is ∙ sym (from_place w ns i inside))
    (inl (subst (λ (j : ℕ). Stops p j held x e) size stops)))

none_left : (w : ℕ → Deed) (ns : List ℕ) (i : ℕ) → length ns ≤ i → map w (drop i ns) ≡ []
none_left w ns i ended = ap (map w) (drop_all i ns ended)

-- nothing is left to do
pub underway_done : (p m : ℕ) (w : ℕ → Deed) (ns before : List ℕ) (i : ℕ) (held : List ℕ) (start finish : ℕ)
    → Underway p m w ns before i held
    → i ≡ length ns
    → finish ≡ (start + m * i) % 2 ^ 64
    → AllDone p m (map w ns) before held start finish
unfolding AllFree final
underway_done p m w ns before i held start finish under ended counted =
    let none = none_left w ns i (omega arith) in
    record {
      free = under.free (subst (λ (t : List Deed). AllFree p m held t) (sym none) tt);
      list_is = ap (final held) (sym none) ∙ under.ends;
      counted = counted ∙ ap (λ t. (start + m * t) % 2 ^ 64) (ended ∙ sym (length-map ns w));
    }

-- products, m for each deed
pub tallied_none : (start m : ℕ) → start < 2 ^ 64 → start ≡ (start + m * 0) % 2 ^ 64
tallied_none start m fits = sym (mod-eq_of_lt fits) ∙ ap (λ t. t % 2 ^ 64) (omega arith)

pub tallied_more : (start before after m k j : ℕ)
    → before ≡ (start + m * k) % 2 ^ 64
    → after ≡ (before + m * j) % 2 ^ 64
    → after ≡ (start + m * (k + j)) % 2 ^ 64
tallied_more start before after m k j since then =
    then
    ∙ ap (λ t. (t + m * j) % 2 ^ 64) since
    ∙ mod-add-mod (start + m * k) (2 ^ 64) (m * j)
    ∙ ap (λ t. t % 2 ^ 64) (omega arith)

-- deeds after deeds
pub free_both : (p m : ℕ) (ns : List ℕ) (xs ys : List Deed) → AllFree p m ns xs → AllFree p m (final ns xs) ys → AllFree p m ns (xs ++ ys)
unfolding AllFree final
free_both p m ns [] ys first second = second
free_both p m ns (x ∷ xs) ys first second = (first.0, free_both p m (next ns x) xs ys first.1 second)

pub stopped_first : (p m : ℕ) (ns : List ℕ) (xs ys : List Deed) (e : Refusal) → Stopped p m ns xs e → Stopped p m ns (xs ++ ys) e
unfolding Stopped
stopped_first p m ns [] ys e stopped = absurd stopped
stopped_first p m ns (x ∷ xs) ys e (inl stops) = inl stops
stopped_first p m ns (x ∷ xs) ys e (inr later) = inr (later.0, stopped_first p m (next ns x) xs ys e later.1)

pub stopped_second : (p m : ℕ) (ns : List ℕ) (xs ys : List Deed) (e : Refusal)
    → AllFree p m ns xs
    → Stopped p m (final ns xs) ys e
    → Stopped p m ns (xs ++ ys) e
unfolding AllFree Stopped final
stopped_second p m ns [] ys e free stopped = stopped
stopped_second p m ns (x ∷ xs) ys e free stopped = inr (free.0, stopped_second p m (next ns x) xs ys e free.1 stopped)

-- numbers that come or go one after the other make the list with all of them, or without
put_later : (n : ℕ) (ns ms : List ℕ) → rising ms ≡ true → put_all ns (put n ms) ≡ put n (put_all ns ms)
unfolding put_all
put_later n [] ms r = refl
put_later n (k ∷ ns) ms r = ap (put k) (put_later n ns ms r) ∙ put_put k n (put_all ns ms) (put_all_rising ns ms r)

pub final_come : (ns ms : List ℕ) → rising ms ≡ true → final ms (map comes ns) ≡ put_all ns ms
unfolding final put_all
final_come [] ms r = refl
final_come (n ∷ ns) ms r = final_come ns (put n ms) (put_rising n ms r) ∙ put_later n ns ms r

without_later : (n : ℕ) (ns ms : List ℕ) → rising ms ≡ true → without_all ns (without n ms) ≡ without n (without_all ns ms)
unfolding without_all
without_later n [] ms r = refl
without_later n (k ∷ ns) ms r =
    ap (without k) (without_later n ns ms r) ∙ without_without k n (without_all ns ms) (without_all_rising ns ms r)

pub final_go : (ns ms : List ℕ) → rising ms ≡ true → final ms (map goes ns) ≡ without_all ns ms
unfolding final without_all
final_go [] ms r = refl
final_go (n ∷ ns) ms r = final_go ns (without n ms) (without_rising n ms r) ∙ without_later n ns ms r

-- both parts of an exchange, from the copy of the list that takes them
pub exchanged_list : (gone come ms middle after : List ℕ)
    → rising ms ≡ true
    → middle ≡ final ms (map goes gone)
    → after ≡ final middle (map comes come)
    → after ≡ brought ms gone come
unfolding brought
exchanged_list gone come ms middle after r first second =
    second
    ∙ ap (λ t. final t (map comes come)) (first ∙ final_go gone ms r)
    ∙ final_come come (without_all gone ms) (without_all_rising gone ms r)

-- the first part cannot be done
pub stopped_going : (p m k : ℕ) (gone come : List ℕ) (self copy : Desk) (start : ℕ) (e : Refusal)
    → copy ≡ self
    → k ≡ m
    → Stopped p k copy.list (map goes gone) e
    → NotExchanged p m gone come self self start start e
unfolding replacing
stopped_going p m k gone come self copy start e same size stopped =
    record {
      same = refl;
      uncounted = refl;
      why =
          inr
          (stopped_first p m self.list (map goes gone) (map comes come) e
          (subst (λ (d : Desk). Stopped p m d.list (map goes gone) e) same
          (subst (λ (j : ℕ). Stopped p j copy.list (map goes gone) e) size stopped)));
    }

-- the first part is done, on a copy, and the second cannot be done
pub stopped_coming : (p m k j : ℕ) (gone come middle : List ℕ) (self copy : Desk) (start from to : ℕ) (e : Refusal)
    → copy ≡ self
    → k ≡ m
    → j ≡ m
    → AllDone p k (map goes gone) copy.list middle from to
    → Stopped p j middle (map comes come) e
    → NotExchanged p m gone come self self start start e
unfolding replacing
stopped_coming p m k j gone come middle self copy start from to e same size size' went stopped =
    let first = subst (λ (t : ℕ). AllDone p t (map goes gone) copy.list middle from to) size went in
    let all = subst (λ (d : Desk). AllDone p m (map goes gone) d.list middle from to) same first in
    record {
      same = refl;
      uncounted = refl;
      why =
          inr
          (stopped_second p m self.list (map goes gone) (map comes come) e all.free
          (subst (λ (t : List ℕ). Stopped p m t (map comes come) e) all.list_is
          (subst (λ (t : ℕ). Stopped p t middle (map comes come) e) size' stopped)));
    }

pub exchanged : (p m k j : ℕ) (gone come middle : List ℕ) (self copy after : Desk) (start between finish : ℕ)
    → copy ≡ self
    → k ≡ m
    → j ≡ m
    → rising self.list ≡ true
    → AllDone p k (map goes gone) copy.list middle start between
    → AllDone p j (map comes come) middle after.list between finish
    → Exchanged p m gone come self after start finish
unfolding replacing
exchanged p m k j gone come middle self copy after start between finish same size size' rises went came =
    let first =
    subst (λ (d : Desk). AllDone p m (map goes gone) d.list middle start between) same
    (subst (λ (t : ℕ). AllDone p t (map goes gone) copy.list middle start between) size went) in
    let second = subst (λ (t : ℕ). AllDone p t (map comes come) middle after.list between finish) size' came in
    record {
      free =
          free_both p m self.list (map goes gone) (map comes come) first.free
          (subst (λ (t : List ℕ). AllFree p m t (map comes come)) first.list_is second.free);
      list_is = exchanged_list gone come self.list middle after.list rises first.list_is second.list_is;
      counted =
          tallied_more start between finish m (length gone) (length come)
          (first.counted ∙ ap (λ t. (start + m * t) % 2 ^ 64) (length-map gone goes))
          (second.counted ∙ ap (λ t. (between + m * t) % 2 ^ 64) (length-map come comes));
    }
