-- Deeds before anything is written: from what the letter, the list and the search say to what may be done.
use Rattle.std.proofs.Common.{◌≡◌, ℕ, ◌+◌, ◌-◌, ◌<◌, ◌≤◌, List, length, get_or, take, drop, refl, ap, ◌∙◌, subst, inl, inr, arith}
use Rattle.std.proofs.lemmas.List.{length-take-le, length-drop}
use Rattle.sorted.specs.Edits.{Hit, Miss}
use Rattle.letter.specs.Letter.{Letter as Said, points, times_each, undo_each}
use Rattle.letter.specs.Letters.{letter_of}
use Rattle.letter.specs.Refusals.{number, place}
use Rattle.letter.specs.Rows.{numbers}
use Rattle.letter.specs.Slices.{list_in, LetterRead}
use Rattle.letter.specs.Steps.{LetterCame, LetterNotCame, LetterWent, LetterNotWent}
use Rattle.letter.specs.declared.letters.Letter.{Letter}
use Rattle.letter.specs.declared.refusals.Refusal.{Refusal}
use Rattle.capi.specs.Deeds.{Counts, Miscounts, NotLent, Welcome, DueComes, DueGoes}
use Rattle.capi.specs.Steps.{Held, Coming, Going}

-- the letter l was read from note, and c is its count
module _ (note list : List ℕ) (l : Letter 65537) (read : LetterRead 65537 note l) (c : ℕ) (c-is : c ≡ l.count) where
  count_read : l.count ≡ get_or note 1 0
  unfolding letter_of
  count_read = ap (λ (t : Said). t.many) read.says

  pub held_by : Counts list c → Held note list l
  unfolding letter_of
  held_by counts =
      record {
        lent = record { letter = read.sound; counts = subst (λ (t : ℕ). Counts list t) (c-is ∙ count_read) counts };
        many = count_read;
        size = read.size;
        values = ap (λ (t : Said). t.at) read.says;
      }

  pub not_lent : (k i : ℕ) → (k ≡ 2) × Miscounts list c i → NotLent note list k i
  not_lent k i mis = inr (mis.0, read.sound, subst (λ (t : ℕ). Miscounts list t i) (c-is ∙ count_read) mis.1)

-- the part that is searched is the list
module _ (note list : List ℕ) (l : Letter 65537) (held : Held note list l) (n k at : ℕ) (k-is : k ≡ l.count) where
  part_is : take (1 + k - 1) (drop 1 list) ≡ list_in list
  part_is =
      let e : 1 + k - 1 ≡ get_or list 0 0 = omega (arith, held.many, held.lent.counts.says) in
      ap (λ t. take t (drop 1 list)) e

  missed : Miss n (take (1 + k - 1) (drop 1 list)) at → Miss n (list_in list) at
  missed m = subst (λ (xs : List ℕ). Miss n xs at) part_is m

  hit_at : Hit n (take (1 + k - 1) (drop 1 list)) at → Hit n (list_in list) at
  hit_at h = subst (λ (xs : List ℕ). Hit n xs at) part_is h

  welcome : Miss n (take (1 + k - 1) (drop 1 list)) at → n < 65537 - l.values.len → Welcome note list n
  welcome m small = (omega (arith, small, held.size), λ rises. ((missed m).gap rises).absent)

  pub comes_there : Hit n (take (1 + k - 1) (drop 1 list)) at → DueComes note list n 5 n
  comes_there h = inr (inl (refl, refl, held.lent, inr (hit_at h).there))

  pub comes_not : (e : Refusal) → Miss n (take (1 + k - 1) (drop 1 list)) at → LetterNotCame 65537 n l e → DueComes note list n (number e) (place e)
  comes_not e m (inl (told, large)) = inr (inl (told.0, told.1, held.lent, inl (omega (arith, large, held.size))))
  comes_not e m (inr (told, (small, full))) =
      inr (inr (inl (told.0, told.1, held.lent, welcome m small, omega (arith, full, held.many))))

  pub comes_short : (l' : Letter 65537) → Miss n (take (1 + k - 1) (drop 1 list)) at → LetterCame 65537 n l l' → length list < 2 + k → DueComes note list n 4 (length list)
  comes_short l' m came short =
      inr
      (inr
      (inr (refl, refl, held.lent, welcome m came.small, omega (arith, came.space, held.many), omega (arith, short, held.many))))

  pub coming_by : (l' : Letter 65537)
      → Miss n (take (1 + k - 1) (drop 1 list)) at
      → LetterCame 65537 n l l'
      → 2 + k ≤ length list
      → Coming note list n (record { next = l'; count = k; place = at })
  coming_by l' m came room =
      record {
        lent = held.lent;
        small = omega (arith, came.small, held.size);
        space = omega (arith, came.space, held.many);
        room = omega (arith, room, held.many);
        count = k-is ∙ held.many;
        miss = missed m;
        many = came.count ∙ ap (λ t. t + 1) held.many;
        size = came.size ∙ held.size;
        values =
            came.values
            ∙ ap (λ t. times_each 65537 (points 65537 t) n (numbers l.values)) held.size
            ∙ ap (times_each 65537 (points 65537 (get_or note 0 0)) n) held.values;
      }

  pub goes_missing : Miss n (take (1 + k - 1) (drop 1 list)) at → DueGoes note list n 6 n
  goes_missing m = inr (refl, refl, held.lent, inr (λ rises. ((missed m).gap rises).absent))

  pub goes_not : (e : Refusal) → Hit n (take (1 + k - 1) (drop 1 list)) at → LetterNotWent 65537 n l e → DueGoes note list n (number e) (place e)
  goes_not e h (told, inl large) = inr (told.0, told.1, held.lent, inl (omega (arith, large, held.size)))
  goes_not e h (told, inr none) =
      let says = held.lent.counts.says in
      let there = held.lent.counts.there in
      let few = length-take-le (get_or list 0 0) (drop 1 list) (omega (arith, length-drop 1 list)) in
      absurd (omega (arith, none, (hit_at h).inside, held.many))

  pub going_by : (l' : Letter 65537)
      → Hit n (take (1 + k - 1) (drop 1 list)) at
      → LetterWent 65537 n l l'
      → Going note list n (record { next = l'; count = k; place = at })
  going_by l' h went =
      record {
        lent = held.lent;
        small = omega (arith, went.small, held.size);
        count = k-is ∙ held.many;
        hit = hit_at h;
        many = went.count ∙ ap (λ t. t - 1) held.many;
        size = went.size ∙ held.size;
        values =
            went.values
            ∙ ap (λ t. undo_each 65537 (points 65537 t) n (numbers l.values)) held.size
            ∙ ap (undo_each 65537 (points 65537 (get_or note 0 0)) n) held.values;
      }
