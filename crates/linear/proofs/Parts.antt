-- A part of a list: what stands in it, and what stands in the list after the part was written.
use Rattle.std.proofs.Common.{sym, ap, ◌≡◌, ℕ, ◌+◌, ◌<◌, ◌≤◌, List, length, get_or, take, drop, map, ◌∙◌, rules, arith}
use Rattle.std.proofs.lemmas.List.{places, get_or-take, get_or-drop, map-append, take-map, drop-map, length-take-le, length-drop}
use borrow.Rule.Slice.PartMut.{put_mid}

pub part_at : {A : Type 0} (from k i : ℕ) (xs : List A) (d : A) → i < k → get_or (take k (drop from xs)) i d ≡ get_or xs (from + i) d
part_at from k i xs d h = get_or-take k (drop from xs) i d h ∙ get_or-drop from xs i d

pub map-part : {A B : Type 0} (f : A → B) (from k : ℕ) (xs : List A) → map f (take k (drop from xs)) ≡ take k (drop from (map f xs))
map-part f from k xs = sym (take-map f k (drop from xs)) ∙ ap (take k) (sym (drop-map f from xs))

pub length_part : {A : Type 0} (from k : ℕ) (xs : List A) → from + k ≤ length xs → length (take k (drop from xs)) ≡ k
length_part from k xs fits = length-take-le k (drop from xs) (omega (arith, length-drop from xs))

pub written_before : {A : Type 0} (from k i : ℕ) (xs ys : List A) (d : A) → length ys ≡ k → from + k ≤ length xs → i < from → get_or (put_mid from k xs ys) i d ≡ get_or xs i d
written_before from k i xs ys d long fits h = search (rules, places)

pub written_within : {A : Type 0} (from k i : ℕ) (xs ys : List A) (d : A) → length ys ≡ k → from + k ≤ length xs → i < k → get_or (put_mid from k xs ys) (from + i) d ≡ get_or ys i d
written_within from k i xs ys d long fits h = search (rules, places)

pub written_after : {A : Type 0} (from k i : ℕ) (xs ys : List A) (d : A) → length ys ≡ k → from + k ≤ length xs → from + k ≤ i → get_or (put_mid from k xs ys) i d ≡ get_or xs i d
written_after from k i xs ys d long fits h = search (rules, places)

pub map-put_mid : {A B : Type 0} (f : A → B) (from k : ℕ) (xs ys : List A) → map f (put_mid from k xs ys) ≡ put_mid from k (map f xs) (map f ys)
map-put_mid f from k xs ys = search (rules, map-append, take-map, drop-map)
