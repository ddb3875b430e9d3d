-- The lines that programs print, as bytes. Assumes nothing: these are definitions.
--
--   spaced ns            each number after a space: " 60 77 96"
--   letter_text n vs     a letter's count and its values: "2: 60 77 96"
--   list_text ns         a list's length and its numbers: "3: 5 9 20"
--   malformed_text i     a place of an input: "malformed at 7"
--   difference_text g c  what is gone and what has come: "gone 5 come 3 31"
--   asked_text g c m k   the same, by a letter of m values, with k values sent in all: "gone 5 come 3 31 by 8, 12 sent"
--   opened_text n        how many sites are opened: "opened 3"
--   not_understood_text i   a line of an input: "not understood: line 7"
use Rattle.std.specs.Prelude.{ℕ, List, ◌++◌, length, codes, decimal, flat_map}

abbrev pub spaced : List ℕ → List ℕ
spaced ns = flat_map (λ n. codes " " ++ decimal n) ns

abbrev pub letter_text : ℕ → List ℕ → List ℕ
letter_text n vs = (decimal n ++ codes ":") ++ spaced vs

abbrev pub list_text : List ℕ → List ℕ
list_text ns = letter_text (length ns) ns

abbrev pub malformed_text : ℕ → List ℕ
malformed_text i = codes "malformed at " ++ decimal i

abbrev pub difference_text : List ℕ → List ℕ → List ℕ
difference_text gone come = ((codes "gone" ++ spaced gone) ++ codes " come") ++ spaced come

abbrev pub asked_text : List ℕ → List ℕ → ℕ → ℕ → List ℕ
asked_text gone come m k =
    difference_text gone come ++ (codes " by " ++ (decimal m ++ (codes ", " ++ (decimal k ++ codes " sent"))))

abbrev pub opened_text : ℕ → List ℕ
opened_text n = codes "opened " ++ decimal n

abbrev pub not_understood_text : ℕ → List ℕ
not_understood_text i = codes "not understood: line " ++ decimal i
