-- Deeds as they are written: what the slices hold, and that a letter that was up to date still is.
use Rattle.std.proofs.Common.{◌≡◌, ℕ, suc, ◌+◌, ◌-◌, ◌<◌, ◌≤◌, true, List, [], ◌∷◌, ◌++◌, length, get_or, take, drop, set, sym, refl, ap, ◌∙◌, subst, arith}
use borrow.Rule.Slice.PartMut.{put_mid}
use Rattle.std.specs.List.{insert, remove}
use Rattle.std.proofs.lemmas.List.{append_assoc, length-take-le, length-drop, take-append-drop, take_at, drop-append-le, drop-drop}
use Rattle.field.proofs.Primality.{prime_65537}
use Rattle.sorted.specs.Lists.{rising, all_below}
use Rattle.sorted.proofs.Insertion.{put_rising, put_below, without_rising, without_below}
use Rattle.sorted.proofs.Shifts.{inserted_cut, inserted_length, removed_length}
use Rattle.letter.specs.Letter.{Letter as Said, letter, points, values, times_each, undo_each}
use Rattle.letter.specs.Rows.{numbers}
use Rattle.letter.specs.Slices.{letter_in, list_in, LetterWritten}
use Rattle.letter.proofs.Keeping.{came_values, went_values}
use Rattle.letter.proofs.Pointwise.{length_values}
use Rattle.letter.proofs.Points.{length_points}
use Rattle.capi.specs.Deeds.{Lent, UpToDate, Came, Went}
use Rattle.capi.specs.Steps.{Coming, Going}
use Rattle.capi.specs.declared.deeds.Step.{Step}

-- a count before a part that was written anew
list_leaves : (list : List ℕ) (k c many : ℕ) (row ns rest : List ℕ)
    → 0 < length list
    → c ≡ many
    → row ++ drop k (drop 1 list) ≡ ns ++ rest
    → set (put_mid 1 k list row) 0 c ≡ many ∷ (ns ++ rest)
list_leaves [] k c many row ns rest there c-is row_is = absurd (omega arith)
list_leaves (x ∷ xs) k c many row ns rest there c-is row_is = ap (λ t. t ∷ (row ++ drop k xs)) c-is ∙ ap (λ t. many ∷ t) row_is

list_length : (note list : List ℕ) → Lent note list → length (list_in list) ≡ get_or note 1 0
list_length note list lent =
    let there = lent.counts.there in
    let says = lent.counts.says in
    length-take-le (get_or list 0 0) (drop 1 list) (omega (arith, length-drop 1 list)) ∙ says

-- a letter and a list that were written whole
up_to_date_by : (m c : ℕ) (ns vs rest more note₁ list₁ : List ℕ)
    → note₁ ≡ m ∷ c ∷ (vs ++ rest)
    → list₁ ≡ c ∷ (ns ++ more)
    → rising ns ≡ true
    → all_below (65537 - m) ns ≡ true
    → length ns ≡ c
    → vs ≡ values 65537 (points 65537 m) ns
    → UpToDate note₁ list₁
unfolding letter
up_to_date_by m c ns vs rest more note₁ list₁ note_is list_is rises below size right =
    subst (λ (t : List ℕ). UpToDate t list₁) (sym note_is)
    (subst (λ (t : List ℕ). UpToDate (m ∷ c ∷ (vs ++ rest)) t) (sym list_is)
    (record {
      rises = ap rising in_list ∙ rises;
      below = ap (all_below (65537 - m)) in_list ∙ below;
      letter_is =
          ap (λ (t : List ℕ). record { many = c; at = t }) (take_at vs rest m long)
          ∙ ap (λ (t : ℕ). record { many = t; at = vs }) (sym size)
          ∙ ap (λ (t : List ℕ). record { many = length ns; at = t }) right
          ∙ ap (λ (t : List ℕ). letter 65537 m t) (sym in_list);
    }))
  where
    in_list : list_in (c ∷ (ns ++ more)) ≡ ns
    in_list = take_at ns more c size

    long : length vs ≡ m
    long = ap length right ∙ length_values 65537 (points 65537 m) ns ∙ length_points 65537 m

-- the values of a letter that is up to date
values_right : (note list : List ℕ) → UpToDate note list → (letter_in note).at ≡ values 65537 (points 65537 (get_or note 0 0)) (list_in list)
unfolding letter
values_right note list u = ap (λ (t : Said). t.at) u.letter_is

letter_leaves : (m c : ℕ) (vs note note₁ : List ℕ) (s : Step) (w : ℕ)
    → LetterWritten s.next.values.len s.next.count (numbers s.next.values) note note₁ w
    → s.next.values.len ≡ m
    → s.next.count ≡ c
    → numbers s.next.values ≡ vs
    → note₁ ≡ m ∷ c ∷ (vs ++ drop (2 + m) note)
letter_leaves m c vs note note₁ s w written size many are =
    written.leaves
    ∙ ap (λ t. t ∷ s.next.count ∷ (numbers s.next.values ++ drop (2 + t) note)) size
    ∙ ap (λ t. m ∷ t ∷ (numbers s.next.values ++ drop (2 + m) note)) many
    ∙ ap (λ t. m ∷ c ∷ (t ++ drop (2 + m) note)) are

pub came_by : (note list : List ℕ) (n : ℕ) (s : Step) (row note₁ : List ℕ) (c w : ℕ)
    → Coming note list n s
    → row ≡ take (length (take (2 + s.count - 1) (drop 1 list))) (insert (take (2 + s.count - 1) (drop 1 list)) s.place n)
    → c ≡ s.next.count
    → LetterWritten s.next.values.len s.next.count (numbers s.next.values) note note₁ w
    → Came note list n note₁ (set (put_mid 1 (2 + s.count - 1) list row) 0 c)
came_by note list n s row note₁ c w step moved c-is written =
    record {
      lent = step.lent;
      small = step.small;
      space = step.space;
      room = step.room;
      place = s.place;
      inside = inside;
      list_is = list_is;
      note_is = note_is;
      sorted = λ rises. ((step.miss.gap rises).absent, (step.miss.gap rises).given);
      kept = kept;
    }
  where
    m : ℕ
    m = get_or note 0 0

    many : ℕ
    many = get_or note 1 0

    ns : List ℕ
    ns = list_in list

    vs : List ℕ
    vs = times_each 65537 (points 65537 m) n (letter_in note).at

    inside : s.place ≤ get_or note 1 0
    inside = omega (arith, step.miss.inside, list_length note list step.lent)

    cut : 2 + s.count - 1 ≡ suc (get_or note 1 0)
    cut = omega (arith, step.count)

    row_is : row ≡ insert ns s.place n
    row_is =
        moved
        ∙ ap (λ t. take (length (take t (drop 1 list))) (insert (take t (drop 1 list)) s.place n)) cut
        ∙ ap (λ t. take t (insert (take (suc many) (drop 1 list)) s.place n))
        (length-take-le (suc many) (drop 1 list) (omega (arith, length-drop 1 list, step.room)))
        ∙ inserted_cut (drop 1 list) many s.place n inside (omega (arith, length-drop 1 list, step.room))
        ∙ ap (λ t. insert (take t (drop 1 list)) s.place n) (sym step.lent.counts.says)

    after : drop (2 + s.count - 1) (drop 1 list) ≡ drop (2 + get_or note 1 0) list
    after =
        let e : 1 + (2 + s.count - 1) ≡ 2 + get_or note 1 0 = omega (arith, step.count) in
        drop-drop (2 + s.count - 1) 1 list ∙ ap (λ t. drop t list) e

    list_is : set (put_mid 1 (2 + s.count - 1) list row) 0 c ≡ (get_or note 1 0 + 1) ∷ (insert ns s.place n ++ drop (2 + get_or note 1 0) list)
    list_is =
        list_leaves list (2 + s.count - 1) c (get_or note 1 0 + 1) row (insert ns s.place n) (drop (2 + get_or note 1 0) list)
        (omega (arith, step.room)) (c-is ∙ step.many)
        (ap (λ t. t ++ drop (2 + s.count - 1) (drop 1 list)) row_is ∙ ap (λ t. insert ns s.place n ++ t) after)

    note_is : note₁ ≡ m ∷ (get_or note 1 0 + 1) ∷ (vs ++ drop (2 + m) note)
    note_is = letter_leaves m (get_or note 1 0 + 1) vs note note₁ s w written step.size step.many step.values

    kept : UpToDate note list → UpToDate note₁ (set (put_mid 1 (2 + s.count - 1) list row) 0 c)
    kept u =
        let gap = step.miss.gap u.rises in
        let size : length (insert ns s.place n) ≡ get_or note 1 0 + 1 =
        omega (arith, inserted_length ns s.place n step.miss.inside, list_length note list step.lent) in
        up_to_date_by m (get_or note 1 0 + 1) (insert ns s.place n) vs (drop (2 + m) note) (drop (2 + get_or note 1 0) list) note₁ _ note_is list_is
        (ap rising gap.given ∙ put_rising n ns u.rises)
        (ap (all_below (65537 - m)) gap.given ∙ put_below (65537 - m) n ns step.small u.below) size
        (came_values 65537 m n ns (letter_in note).at (insert ns s.place n) vs gap.absent (values_right note list u) gap.given refl)

pub went_by : (note list : List ℕ) (n : ℕ) (s : Step) (row note₁ : List ℕ) (c w : ℕ)
    → Going note list n s
    → row ≡ remove (take (1 + s.count - 1) (drop 1 list)) s.place ++ drop (length (remove (take (1 + s.count - 1) (drop 1 list)) s.place)) (take (1 + s.count - 1) (drop 1 list))
    → c ≡ s.next.count
    → LetterWritten s.next.values.len s.next.count (numbers s.next.values) note note₁ w
    → Went note list n note₁ (set (put_mid 1 (1 + s.count - 1) list row) 0 c)
went_by note list n s row note₁ c w step moved c-is written =
    record {
      lent = step.lent;
      small = step.small;
      there = step.hit.there;
      place = s.place;
      inside = inside;
      here = step.hit.is;
      list_is = list_is;
      note_is = note_is;
      sorted = λ rises. (step.hit.found rises).taken;
      kept = kept;
    }
  where
    m : ℕ
    m = get_or note 0 0

    many : ℕ
    many = get_or note 1 0

    ns : List ℕ
    ns = list_in list

    left : List ℕ
    left = remove ns s.place

    vs : List ℕ
    vs = undo_each 65537 (points 65537 m) n (letter_in note).at

    size_ns : length ns ≡ get_or note 1 0
    size_ns = list_length note list step.lent

    inside : s.place < get_or note 1 0
    inside = omega (arith, step.hit.inside, size_ns)

    size : suc (length left) ≡ get_or note 1 0
    size = removed_length ns s.place step.hit.inside ∙ size_ns

    cut : 1 + s.count - 1 ≡ get_or list 0 0
    cut = omega (arith, step.count, step.lent.counts.says)

    row_is : row ≡ left ++ drop (length left) ns
    row_is = moved ∙ ap (λ t. remove (take t (drop 1 list)) s.place ++ drop (length (remove (take t (drop 1 list)) s.place)) (take t (drop 1 list))) cut

    -- the last number stays behind the list
    after : drop (length left) ns ++ drop (1 + s.count - 1) (drop 1 list) ≡ drop (get_or note 1 0) list
    after =
        let e : 1 + length left ≡ get_or note 1 0 = omega (arith, size) in
        ap (λ t. drop (length left) ns ++ drop t (drop 1 list)) cut
        ∙ sym (drop-append-le (length left) ns (drop (get_or list 0 0) (drop 1 list)) (omega (arith, size, size_ns)))
        ∙ ap (drop (length left)) (take-append-drop (get_or list 0 0) (drop 1 list))
        ∙ drop-drop (length left) 1 list
        ∙ ap (λ t. drop t list) e

    list_is : set (put_mid 1 (1 + s.count - 1) list row) 0 c ≡ (get_or note 1 0 - 1) ∷ (left ++ drop (get_or note 1 0) list)
    list_is =
        list_leaves list (1 + s.count - 1) c (get_or note 1 0 - 1) row left (drop (get_or note 1 0) list)
        (omega (arith, step.lent.counts.there)) (c-is ∙ step.many)
        (ap (λ t. t ++ drop (1 + s.count - 1) (drop 1 list)) row_is
        ∙ append_assoc left (drop (length left) ns) (drop (1 + s.count - 1) (drop 1 list))
        ∙ ap (λ t. left ++ t) after)

    note_is : note₁ ≡ m ∷ (get_or note 1 0 - 1) ∷ (vs ++ drop (2 + m) note)
    note_is = letter_leaves m (get_or note 1 0 - 1) vs note note₁ s w written step.size step.many step.values

    kept : UpToDate note list → UpToDate note₁ (set (put_mid 1 (1 + s.count - 1) list row) 0 c)
    kept u =
        let found = step.hit.found u.rises in
        let few = step.lent.letter.few in
        up_to_date_by m (get_or note 1 0 - 1) left vs (drop (2 + m) note) (drop (get_or note 1 0) list) note₁ _ note_is list_is
        (ap rising found.taken ∙ without_rising n ns u.rises)
        (ap (all_below (65537 - m)) found.taken ∙ without_below (65537 - m) n ns u.below) (omega (arith, size))
        (went_values 65537 m n ns (letter_in note).at left vs ∣ prime_65537 ∣₁ (omega arith) u.below found.there (values_right note list u) found.taken refl)
