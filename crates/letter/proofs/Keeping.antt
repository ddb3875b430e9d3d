-- Desks: what holds at the opening and after each deed.
use Rattle.std.proofs.Common.{◌≡◌, ℕ, suc, ◌+◌, ◌-◌, ◌<◌, ◌≤◌, true, false, not, ◌&&◌, ltb, List, [], length, take, sym, ap, ◌∙◌, subst, add-one, arith}
use mathlib.Core.List.{is_set}
use mathlib.Core.Logic.{∥∥₁_elim}
use native.Mathlib.Nat.{ℕ_set}
use Rattle.field.specs.Prime.{Prime}
use Rattle.field.specs.Polynomial.{Among}
use Rattle.sorted.proofs.Members.{has_below}
use Rattle.letter.proofs.Points.{points_below, points_above}
use Rattle.letter.proofs.Pointwise.{values_prefix}
use Rattle.std.proofs.lemmas.Bool.{lt-ltb}
use Rattle.sorted.specs.Lists.{all_below, has, put, without, rising, pick}
use Rattle.sorted.specs.Sorted.{items_of}
use Rattle.sorted.proofs.Insertion.{put_length, put_length_le, put_below, without_length, without_below}
use Rattle.letter.proofs.Kept.{values_put, values_without}
use Rattle.letter.specs.Letter.{points, values, letter, Desk, bare, step, comes, goes, times_each, undo_each}
use Rattle.letter.specs.Desks.{desk_of, desk_size, UpToDate}
use Rattle.letter.specs.declared.desks.Desk.{Desk as Kept}

pub empty_below : (b : ℕ) (ns : List ℕ) → ns ≡ [] → all_below b ns ≡ true
unfolding all_below
empty_below b ns e = ap (all_below b) e

pub empty_few : (ns : List ℕ) → ns ≡ [] → length ns ≤ 60000
empty_few ns e = omega (arith, ap length e)

-- an empty desk, by its parts
pub bare_by : (p m : ℕ) (ns vs : List ℕ) → ns ≡ [] → vs ≡ values p (points p m) [] →
    ◌≡◌ {A = Desk} (record { list = ns; letter_now = record { many = length ns; at = vs } }) (bare p m)
unfolding letter
bare_by p m ns vs none made =
    ap (λ t. record { list = t; letter_now = record { many = length t; at = vs } }) none
    ∙ ap (λ t. record { list = []; letter_now = record { many = 0; at = t } }) made

-- what a desk's own facts give
pub up_to_date : {p : ℕ} (d : Kept p) → UpToDate p (desk_size d) (desk_of d)
unfolding desk_of letter
up_to_date d =
    record {
      letter_is = ap (λ t. record { many = length (items_of d.list); at = t }) d.right;
      in_order = d.list.sorted;
      small = d.below;
    }

-- a desk one step on, by its parts
pub came_after : (p m n : ℕ) (ns vs ns' vs' : List ℕ)
    → rising ns ≡ true
    → n < p - m
    → has ns n ≡ false
    → ns' ≡ put n ns
    → vs' ≡ times_each p (points p m) n vs
    → ◌≡◌ {A = Desk} (record { list = ns'; letter_now = record { many = length ns'; at = vs' } })
    (step p m (record { list = ns; letter_now = record { many = length ns; at = vs } }) (comes n))
unfolding step
came_after p m n ns vs ns' vs' rises small new put_in made =
    ap (λ t. record { list = t; letter_now = record { many = length t; at = vs' } }) put_in
    ∙ ap (λ t. record { list = put n ns; letter_now = record { many = t; at = vs' } }) one_more
    ∙ ap (λ t. record { list = put n ns; letter_now = record { many = suc (length ns); at = t } }) made
    ∙ ap (λ t. pick t next before) (sym test)
  where
    before : Desk
    before = record { list = ns; letter_now = record { many = length ns; at = vs } }

    next : Desk
    next = record { list = put n ns; letter_now = record { many = suc (length ns); at = times_each p (points p m) n vs } }

    one_more : length (put n ns) ≡ suc (length ns)
    one_more = put_length n ns rises ∙ ap (λ t. pick t (length ns) (length ns + 1)) new ∙ add-one (length ns)

    test : (ltb n (p - m) && not (has ns n)) ≡ true
    test = ap (λ t. t && not (has ns n)) (lt-ltb n (p - m) small) ∙ ap (λ t. true && not t) new

pub up_to_date_by : (p m : ℕ) (ns vs : List ℕ)
    → rising ns ≡ true
    → all_below (p - m) ns ≡ true
    → vs ≡ values p (points p m) ns
    → UpToDate p m (record { list = ns; letter_now = record { many = length ns; at = vs } })
unfolding letter
up_to_date_by p m ns vs rises small made =
    record { letter_is = ap (λ t. record { many = length ns; at = t }) made; in_order = rises; small = small }

-- the row after n came, from the code's points zs and residue x
pub came_row : (p m n x : ℕ) (zs vs vs' : List ℕ)
    → zs ≡ points p m
    → x ≡ n
    → vs' ≡ times_each p zs x vs
    → vs' ≡ times_each p (points p m) n vs
came_row p m n x zs vs vs' spots residue made =
    made ∙ ap (λ t. times_each p t x vs) spots ∙ ap (λ t. times_each p (points p m) t vs) residue

pub came_values : (p m n : ℕ) (ns vs ns' vs' : List ℕ)
    → has ns n ≡ false
    → vs ≡ values p (points p m) ns
    → ns' ≡ put n ns
    → vs' ≡ times_each p (points p m) n vs
    → vs' ≡ values p (points p m) ns'
came_values p m n ns vs ns' vs' new right put_in made =
    made
    ∙ ap (times_each p (points p m) n) right
    ∙ sym (values_put p n (points p m) ns new)
    ∙ ap (values p (points p m)) (sym put_in)

pub came_below : (b n : ℕ) (ns ns' : List ℕ) → n < b → all_below b ns ≡ true → ns' ≡ put n ns → all_below b ns' ≡ true
came_below b n ns ns' small below put_in = ap (all_below b) put_in ∙ put_below b n ns small below

pub came_few : (n k : ℕ) (ns ns' : List ℕ) → length ns < k → ns' ≡ put n ns → length ns' ≤ k
came_few n k ns ns' space put_in = omega (arith, ap length put_in, put_length_le n ns)

pub went_row : (p m n x : ℕ) (zs vs vs' : List ℕ)
    → zs ≡ points p m
    → x ≡ n
    → vs' ≡ undo_each p zs x vs
    → vs' ≡ undo_each p (points p m) n vs
went_row p m n x zs vs vs' spots residue made =
    made ∙ ap (λ t. undo_each p t x vs) spots ∙ ap (λ t. undo_each p (points p m) t vs) residue

pub went_values : (p m n : ℕ) (ns vs ns' vs' : List ℕ)
    → ∥ Prime p ∥₁
    → m < p
    → all_below (p - m) ns ≡ true
    → has ns n ≡ true
    → vs ≡ values p (points p m) ns
    → ns' ≡ without n ns
    → vs' ≡ undo_each p (points p m) n vs
    → vs' ≡ values p (points p m) ns'
went_values p m n ns vs ns' vs' prime room below there right taken made =
    let small : n < p - m = has_below (p - m) n ns there below in
    made
    ∙ ap (undo_each p (points p m) n) right
    ∙ sym
    (∥∥₁_elim prime (is_set ℕ_set (values p (points p m) (without n ns)) (undo_each p (points p m) n (values p (points p m) ns)))
    (λ (pr : Prime p).
    values_without p n (points p m) ns pr there (omega arith) (points_below p m (omega arith)) (points_above p m n small)))
    ∙ ap (values p (points p m)) (sym taken)

pub went_after : (p m n : ℕ) (ns vs ns' vs' : List ℕ)
    → has ns n ≡ true
    → ns' ≡ without n ns
    → vs' ≡ undo_each p (points p m) n vs
    → ◌≡◌ {A = Desk} (record { list = ns'; letter_now = record { many = length ns'; at = vs' } })
    (step p m (record { list = ns; letter_now = record { many = length ns; at = vs } }) (goes n))
unfolding step
went_after p m n ns vs ns' vs' there taken made =
    ap (λ t. record { list = t; letter_now = record { many = length t; at = vs' } }) taken
    ∙ ap (λ t. record { list = without n ns; letter_now = record { many = t; at = vs' } }) one_less
    ∙ ap (λ t. record { list = without n ns; letter_now = record { many = length ns - 1; at = t } }) made
    ∙ ap (λ t. pick t next before) (sym there)
  where
    before : Desk
    before = record { list = ns; letter_now = record { many = length ns; at = vs } }

    next : Desk
    next = record { list = without n ns; letter_now = record { many = length ns - 1; at = undo_each p (points p m) n vs } }

    one_less : length (without n ns) ≡ length ns - 1
    one_less = without_length n ns ∙ ap (λ t. pick t (length ns - 1) (length ns)) there

pub went_below : (b n : ℕ) (ns ns' : List ℕ) → all_below b ns ≡ true → ns' ≡ without n ns → all_below b ns' ≡ true
went_below b n ns ns' below taken = ap (all_below b) taken ∙ without_below b n ns below

pub went_few : (n k : ℕ) (ns ns' : List ℕ) → length ns ≤ k → has ns n ≡ true → ns' ≡ without n ns → length ns' ≤ k
went_few n k ns ns' few there taken =
    omega (arith, ap length taken, without_length n ns ∙ ap (λ t. pick t (length ns - 1) (length ns)) there)

-- a number below the points is none of them
pub off_points : (p m n x : ℕ) (zs : List ℕ) → n < p - m → zs ≡ points p m → x ≡ n → Among x zs → ⊥
off_points p m n x zs small spots residue m' =
    points_above p m n small
    (subst (λ (t : List ℕ). Among n t) spots (subst (λ (t : ℕ). Among t zs) residue m'))

pub went_off : (p m n x : ℕ) (ns zs : List ℕ)
    → all_below (p - m) ns ≡ true
    → has ns n ≡ true
    → zs ≡ points p m
    → x ≡ n
    → Among x zs
    → ⊥
went_off p m n x ns zs below there = off_points p m n x zs (has_below (p - m) n ns there below)

-- a beginning of the row that is kept is the row of a shorter letter
pub beginning_letter : (p m k : ℕ) (ns : List ℕ) → m ≤ k → take m (values p (points p k) ns) ≡ values p (points p m) ns
beginning_letter p m k ns short =
    ap (λ t. take m (values p (points p t) ns)) (omega arith) ∙ values_prefix p m (k - m) ns
