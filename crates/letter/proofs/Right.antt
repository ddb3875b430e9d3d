-- The letter that a desk keeps is the letter of its list: over any points, then over the m largest numbers below p.
use Rattle.std.proofs.Common.{◌≡◌, ℕ, suc, ◌-◌, ◌<◌, ◌≤◌, Bool, true, false, not, ◌&&◌, ltb, List, [], ◌∷◌, length, sym, refl, ap, ◌∙◌, subst, arith}
use Rattle.std.proofs.lemmas.Bool.Decides.{nat_tests}
use Rattle.std.proofs.lemmas.Bool.{and_parts, not-true, ltb-true}
use Rattle.field.specs.Prime.{Prime}
use Rattle.field.specs.Polynomial.{value, Among, Below}
use Rattle.field.proofs.Roots.{among_below}
use Rattle.field.proofs.Values.{value_append, value_zero}
use Rattle.sorted.specs.Lists.{pick, has, rising, all_below, put, without}
use Rattle.sorted.proofs.Members.{has_below}
use Rattle.sorted.proofs.Insertion.{put_rising, put_below, put_length, without_rising, without_below, without_length}
use Rattle.letter.specs.Letter.{points, values, Letter, letter, times_each, undo_each, Deed, comes, goes, Desk, step, end, bare}
use Rattle.letter.specs.Desks.{UpToDate}
use Rattle.letter.specs.Theorems.{LettersRight, NeverNothing, ValuesMultiply}
use Rattle.letter.proofs.Bridges.{below_from_all, below_more, has_from_among}
use Rattle.letter.proofs.Points.{getD_points, points_among, points_below, points_above}
use Rattle.letter.proofs.Kept.{values_put, values_without}

-- points below p, none of them a number below b: those that lists of numbers below b may be evaluated at
pub record Apart (p : ℕ) (zs : List ℕ) (b : ℕ) : Type 0 where
  pub inside : b ≤ p
  pub low : Below p zs
  pub off : (n : ℕ) → n < b → Among n zs → ⊥

-- the letter of a list at any points
unfoldable pub letter_at : ℕ → List ℕ → List ℕ → Letter
letter_at p zs ns = record { many = length ns; at = values p zs ns }

-- one deed at a desk with the points zs and numbers below b
unfoldable pub step_at : ℕ → List ℕ → ℕ → Desk → Deed → Desk
step_at p zs b d (comes n) =
    pick (ltb n b && not (has d.list n))
    (record { list = put n d.list; letter_now = record { many = suc d.letter_now.many; at = times_each p zs n d.letter_now.at } }) d
step_at p zs b d (goes n) =
    pick (has d.list n)
    (record { list = without n d.list; letter_now = record { many = d.letter_now.many - 1; at = undo_each p zs n d.letter_now.at } }) d

-- what a desk keeps true
pub record RightAt (p : ℕ) (zs : List ℕ) (b : ℕ) (d : Desk) : Type 0 where
  pub letter_is : d.letter_now ≡ letter_at p zs d.list
  pub in_order : rising d.list ≡ true
  pub small : all_below b d.list ≡ true

-- the letter after n came
came_letter : (p : ℕ) (zs : List ℕ) (n : ℕ) (ns : List ℕ) (l : Letter)
    → rising ns ≡ true
    → has ns n ≡ false
    → l ≡ letter_at p zs ns
    → ◌≡◌ {A = Letter} (record { many = suc l.many; at = times_each p zs n l.at }) (letter_at p zs (put n ns))
unfolding letter_at
came_letter p zs n ns l r new e =
    let a : l.many ≡ length ns = ap (λ (t : Letter). t.many) e in
    let b : l.at ≡ values p zs ns = ap (λ (t : Letter). t.at) e in
    let c = values_put p n zs ns new in
    let f = put_length n ns r in
    let g : suc l.many ≡ length (put n ns) = grind (arith, nat_tests) in
    let h : times_each p zs n l.at ≡ values p zs (put n ns) = cc in
    cc

-- the letter after n went
went_letter : (p : ℕ) (zs : List ℕ) (b n : ℕ) (ns : List ℕ) (l : Letter)
    → Prime p
    → Apart p zs b
    → all_below b ns ≡ true
    → has ns n ≡ true
    → l ≡ letter_at p zs ns
    → ◌≡◌ {A = Letter} (record { many = l.many - 1; at = undo_each p zs n l.at }) (letter_at p zs (without n ns))
unfolding letter_at
went_letter p zs b n ns l pr apart below there e =
    let a : l.many ≡ length ns = ap (λ (t : Letter). t.many) e in
    let k : l.at ≡ values p zs ns = ap (λ (t : Letter). t.at) e in
    let low : n < b = has_below b n ns there below in
    let c = values_without p n zs ns pr there (omega (arith, apart.inside)) apart.low (apart.off n low) in
    let f = without_length n ns in
    let g : l.many - 1 ≡ length (without n ns) = grind (arith, nat_tests) in
    let h : undo_each p zs n l.at ≡ values p zs (without n ns) = cc in
    cc

-- one deed keeps it
pub step_right_at : (p : ℕ) (zs : List ℕ) (b : ℕ) (d : Desk) (x : Deed)
    → Prime p
    → Apart p zs b
    → RightAt p zs b d
    → RightAt p zs b (step_at p zs b d x)
unfolding step_at
step_right_at p zs b d (comes n) pr apart right = go (ltb n b && not (has d.list n)) refl
  where
    next : Desk
    next = record { list = put n d.list; letter_now = record { many = suc d.letter_now.many; at = times_each p zs n d.letter_now.at } }

    go : (t : Bool) → (ltb n b && not (has d.list n)) ≡ t → RightAt p zs b (pick t next d)
    go false e = right
    go true e =
        let parts = and_parts (ltb n b) (not (has d.list n)) e in
        let new = not-true (has d.list n) parts.1 in
        record {
          letter_is = came_letter p zs n d.list d.letter_now right.in_order new right.letter_is;
          in_order = put_rising n d.list right.in_order;
          small = put_below b n d.list (ltb-true n b parts.0) right.small;
        }
step_right_at p zs b d (goes n) pr apart right = go (has d.list n) refl
  where
    next : Desk
    next = record { list = without n d.list; letter_now = record { many = d.letter_now.many - 1; at = undo_each p zs n d.letter_now.at } }

    go : (t : Bool) → has d.list n ≡ t → RightAt p zs b (pick t next d)
    go false e = right
    go true e =
        record {
          letter_is = went_letter p zs b n d.list d.letter_now pr apart right.small e right.letter_is;
          in_order = without_rising n d.list right.in_order;
          small = without_below b n d.list right.small;
        }

-- a desk over any points after several deeds, from an empty list
unfoldable pub end_at : ℕ → List ℕ → ℕ → Desk → List Deed → Desk
end_at p zs b d [] = d
end_at p zs b d (x ∷ xs) = end_at p zs b (step_at p zs b d x) xs

abbrev pub bare_at : ℕ → List ℕ → Desk
bare_at p zs = record { list = []; letter_now = letter_at p zs [] }

pub end_right_at : (p : ℕ) (zs : List ℕ) (b : ℕ) (d : Desk) (xs : List Deed)
    → Prime p
    → Apart p zs b
    → RightAt p zs b d
    → RightAt p zs b (end_at p zs b d xs)
unfolding end_at
end_right_at p zs b d [] pr apart right = right
end_right_at p zs b d (x ∷ xs) pr apart right =
    end_right_at p zs b (step_at p zs b d x) xs pr apart (step_right_at p zs b d x pr apart right)

pub bare_right_at : (p : ℕ) (zs : List ℕ) (b : ℕ) → RightAt p zs b (bare_at p zs)
unfolding rising all_below
bare_right_at p zs b = record { letter_is = refl; in_order = refl; small = refl }

pub letters_right_at : (p : ℕ) (zs : List ℕ) (b : ℕ) (xs : List Deed)
    → Prime p
    → Apart p zs b
    → RightAt p zs b (end_at p zs b (bare_at p zs) xs)
letters_right_at p zs b xs pr apart = end_right_at p zs b (bare_at p zs) xs pr apart (bare_right_at p zs b)

-- the m largest numbers below p are such points for numbers below p - m
pub points_apart : (p m : ℕ) → m ≤ p → Apart p (points p m) (p - m)
points_apart p m l = record { inside = omega arith; low = points_below p m l; off = points_above p m }

pub letter_at_points : (p m : ℕ) (ns : List ℕ) → letter_at p (points p m) ns ≡ letter p m ns
unfolding letter_at letter
letter_at_points p m ns = refl

pub step_at_points : (p m : ℕ) (d : Desk) (x : Deed) → step_at p (points p m) (p - m) d x ≡ step p m d x
unfolding step_at step
step_at_points p m d (comes n) = refl
step_at_points p m d (goes n) = refl

pub step_right : (p m : ℕ) (d : Desk) (x : Deed) → Prime p → m ≤ p → UpToDate p m d → UpToDate p m (step p m d x)
step_right p m d x pr l right =
    let after =
    step_right_at p (points p m) (p - m) d x pr (points_apart p m l)
    (record { letter_is = right.letter_is ∙ sym (letter_at_points p m d.list); in_order = right.in_order; small = right.small }) in
    subst (λ (e : Desk). UpToDate p m e) (step_at_points p m d x)
    (record {
      letter_is = after.letter_is ∙ letter_at_points p m (step_at p (points p m) (p - m) d x).list;
      in_order = after.in_order;
      small = after.small;
    })

pub end_right : (p m : ℕ) (d : Desk) (xs : List Deed) → Prime p → m ≤ p → UpToDate p m d → UpToDate p m (end p m d xs)
unfolding end
end_right p m d [] pr l right = right
end_right p m d (x ∷ xs) pr l right = end_right p m (step p m d x) xs pr l (step_right p m d x pr l right)

pub bare_right : (p m : ℕ) → UpToDate p m (bare p m)
unfolding rising all_below
bare_right p m = record { letter_is = refl; in_order = refl; small = refl }

pub letters_right : LettersRight
letters_right p m ds pr l =
    let r = end_right p m (bare p m) ds pr (omega arith) (bare_right p m) in (r.letter_is, r.in_order, r.small)

-- no list has the value 0 at a point that is none of its numbers
pub value_nonzero : (p z : ℕ) (ns : List ℕ) → Prime p → z < p → Below p ns → (Among z ns → ⊥) → value p z ns ≡ 0 → ⊥
value_nonzero p z ns pr low lows off e = off (value_zero p z ns pr low lows e)

pub never_nothing : NeverNothing
never_nothing p m i ns pr l small i-in e =
    let a : Among (p - suc i) (points p m) = points_among p m i i-in in
    let lows = points_below p m (omega arith) in
    value_nonzero p (p - suc i) ns pr (among_below p (p - suc i) (points p m) lows a)
    (below_more (p - m) p ns (omega arith) (below_from_all (p - m) ns small))
    (λ m'. points_above p m (p - suc i) (has_below (p - m) (p - suc i) ns (has_from_among (p - suc i) ns m') small) a)
    (ap (λ t. value p t ns) (sym (getD_points p m i 0 i-in)) ∙ e)

pub values_multiply : ValuesMultiply
values_multiply p z xs ys pos = value_append p z xs ys pos
