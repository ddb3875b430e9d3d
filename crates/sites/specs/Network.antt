-- What several sites hold, and what they answer. Assumes nothing: these are definitions.
--
--   lists_of s       the list of each site
--   letters_of s     the letter that each site keeps
--   Right s          each letter that is kept is the letter of its list, with sixty-four values
--   list_at ls i     the list of site i
--   Opened, NotOpened    n sites with nothing on their lists, or why there are none: there are 2 to 40 sites
--   Passed, NotPassed    a number comes or goes at site i and no other list changes, or why none changes
--   Absent ls i e    there is no site i
use Rattle.std.specs.Prelude.{◌≡◌, ℕ, ◌+◌, ◌%◌, ◌^◌, ◌<◌, ◌≤◌, ◌⊎◌, List, [], map, length, replicate, vec_items, slice_index_or, slice_set}
use Rattle.letter.specs.Desks.{desk_of, Stops, Told}
use Rattle.letter.specs.Exchanges.{Free, next}
use Rattle.letter.specs.Letter.{Deed, Letter, letter}
use Rattle.letter.specs.declared.refusals.Refusal.{Refusal}
use Rattle.letter.specs.declared.refusals.Refusal.TheVariants.{Memory}
use Rattle.sites.specs.Site.{site_list}
use Rattle.sites.specs.declared.network.Sites.{Sites}

unfoldable pub lists_of : {p : ℕ} → Sites p → List (List ℕ)
lists_of s = map (λ x. site_list x) (vec_items s.sites)

unfoldable pub letters_of : {p : ℕ} → Sites p → List Letter
letters_of s = map (λ x. (desk_of x.desk).letter_now) (vec_items s.sites)

unfoldable pub Right : {p : ℕ} → Sites p → Type 0
Right {p} s = letters_of s ≡ map (letter p 64) (lists_of s)

abbrev pub list_at : List (List ℕ) → ℕ → List ℕ
list_at ls i = slice_index_or ls i []

pub record Opened (p n : ℕ) (s : Sites p) : Type 0 where
  pub several : 2 ≤ n
  pub few : n ≤ 40
  pub room : 64 < p
  pub empty : lists_of s ≡ replicate n []

-- there are too few or too many sites, or the modulus is too small for sixty-four values, or memory is wanting
unfoldable pub NotOpened : (p n : ℕ) → Refusal → Type 0
NotOpened p n e =
    (Told 8 n e × ((n < 2) ⊎ (40 < n)))
    ⊎ ((2 ≤ n) × (n ≤ 40) × ((Told 1 0 e × (p ≤ 64)) ⊎ ((e ≡ Memory) × (64 < p))))

unfoldable pub Absent : List (List ℕ) → ℕ → Refusal → Type 0
Absent ls i e = Told 8 i e × (length ls ≤ i)

pub record Passed (p i : ℕ) (x : Deed) (ls ls₁ : List (List ℕ)) (start finish : ℕ) : Type 0 where
  pub there : i < length ls
  pub free : Free p 64 (list_at ls i) x
  pub lists_are : ls₁ ≡ slice_set ls i (next (list_at ls i) x)
  pub counted : finish ≡ (start + 64) % 2 ^ 64

pub record NotPassed (p i : ℕ) (x : Deed) (ls ls₁ : List (List ℕ)) (e : Refusal) : Type 0 where
  pub same : ls₁ ≡ ls
  pub why : Absent ls i e ⊎ ((i < length ls) × Stops p 64 (list_at ls i) x e)
