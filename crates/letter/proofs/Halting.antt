-- What can stop an exchange of numbers gone, which are on the list, for numbers come, which are not.
use Rattle.std.proofs.Common.{◌≡◌, ℕ, ◌+◌, ◌-◌, ◌<◌, ◌≤◌, ◌⊎◌, true, false, List, [], ◌∷◌, ◌++◌, length, map, subst, inl, inr, arith}
use Rattle.std.proofs.lemmas.Bool.Decides.{nat_tests}
use Rattle.sorted.specs.Lists.{has, rising, put, without, without_all}
use Rattle.sorted.proofs.Members.{has_first, has_later, rising_tail, rising_over}
use Rattle.sorted.proofs.Insertion.{put_has, put_rising, put_length_le, without_has, without_rising}
use Rattle.sorted.proofs.Union.{without_all_has, without_all_rising}
use Rattle.letter.specs.Desks.{Told}
use Rattle.letter.specs.Exchanges.{final, Stopped, replacing}
use Rattle.letter.specs.Letter.{Deed, comes, goes}
use Rattle.letter.specs.Refusals.{capacity}
use Rattle.letter.specs.declared.refusals.Refusal.{Refusal}
use Rattle.letter.specs.declared.refusals.Refusal.TheVariants.{Memory}
use Rattle.letter.proofs.Exchanges.{final_go}

-- why the numbers come, none of which is on the list ns, cannot all come: for want of memory; since one is not below p - m; or
-- since there would be more than the capacity
abbrev pub Halts : ℕ → ℕ → List ℕ → List ℕ → Refusal → Type 0
Halts p m ns come e =
    (e ≡ Memory)
    ⊎ (((n : ℕ) × (Told 5 n e × (has come n ≡ true) × (p - m ≤ n)))
    ⊎ (Told 7 capacity e × (capacity < length ns + length come)))

-- numbers that are there can all go
pub going_stop : (p m : ℕ) (gone : List ℕ) (ys : List Deed) (ms : List ℕ) (e : Refusal)
    → rising gone ≡ true
    → rising ms ≡ true
    → ((n : ℕ) → has gone n ≡ true → has ms n ≡ true)
    → Stopped p m ms (map goes gone ++ ys) e
    → Stopped p m (final ms (map goes gone)) ys e
unfolding Stopped final
going_stop p m [] ys ms e up rises there stopped = stopped
going_stop p m (n ∷ gone) ys ms e up rises there (inl stops) =
    let a = stops.0 in let b = there n (has_first n gone) in absurd (grind (arith, nat_tests))
going_stop p m (n ∷ gone) ys ms e up rises there (inr later) =
    going_stop p m gone ys (without n ms) e (rising_tail n gone up) (without_rising n ms rises) rest later.1
  where
    rest : (k : ℕ) → has gone k ≡ true → has (without n ms) k ≡ true
    rest k h =
        let over = rising_over n gone up k h in
        let a = there k (has_later n k gone h) in
        let b = without_has n ms k rises in
        grind (arith, nat_tests)

-- numbers that are not there can all come, but for three reasons
pub coming_stop : (p m : ℕ) (come ms : List ℕ) (e : Refusal)
    → rising come ≡ true
    → rising ms ≡ true
    → ((n : ℕ) → has come n ≡ true → has ms n ≡ false)
    → Stopped p m ms (map comes come) e
    → Halts p m ms come e
unfolding Stopped
coming_stop p m [] ms e up rises new stopped = absurd stopped
coming_stop p m (n ∷ come) ms e up rises new (inl (inl (told, inl large))) = inr (inl (n, (told, has_first n come, large)))
coming_stop p m (n ∷ come) ms e up rises new (inl (inl (told, inr there))) =
    let b = new n (has_first n come) in absurd (grind (arith, nat_tests))
coming_stop p m (n ∷ come) ms e up rises new (inl (inr (inl (told, full)))) = inr (inr (told, omega (arith, full.2)))
coming_stop p m (n ∷ come) ms e up rises new (inl (inr (inr (memory, free)))) = inl memory
coming_stop p m (n ∷ come) ms e up rises new (inr later) =
    wider (coming_stop p m come (put n ms) e (rising_tail n come up) (put_rising n ms rises) rest later.1)
  where
    rest : (k : ℕ) → has come k ≡ true → has (put n ms) k ≡ false
    rest k h =
        let over = rising_over n come up k h in
        let a = new k (has_later n k come h) in
        let b = put_has n ms k in
        grind (arith, nat_tests)

    wider : Halts p m (put n ms) come e → Halts p m ms (n ∷ come) e
    wider (inl memory) = inl memory
    wider (inr (inl (k, (told, there, large)))) = inr (inl (k, (told, has_later n k come there, large)))
    wider (inr (inr (told, many))) = inr (inr (told, omega (arith, many, put_length_le n ms)))

-- so an exchange is stopped only by numbers that cannot come to what is left of the list
pub replacing_stop : (p m : ℕ) (gone come ms : List ℕ) (e : Refusal)
    → rising gone ≡ true
    → rising come ≡ true
    → rising ms ≡ true
    → ((n : ℕ) → has gone n ≡ true → has ms n ≡ true)
    → ((n : ℕ) → has come n ≡ true → has ms n ≡ false)
    → Stopped p m ms (replacing gone come) e
    → Halts p m (without_all gone ms) come e
unfolding replacing
replacing_stop p m gone come ms e up up' rises there new stopped =
    coming_stop p m come (without_all gone ms) e up' (without_all_rising gone ms rises)
    (λ n h. let a = new n h in let b = without_all_has gone ms n rises in grind (arith, nat_tests))
    (subst (λ (t : List ℕ). Stopped p m t (map comes come) e) (final_go gone ms rises)
    (going_stop p m gone (map comes come) ms e up rises there stopped))
