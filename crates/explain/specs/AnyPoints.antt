-- Explanations over any distinct points below a prime p, and what is promised of them. The points of a letter of m
-- values, the m largest numbers below p, are one case. Assumes nothing: these are definitions and types.
--
--   Off p zs ns                    the numbers ns are below p and none of them is a point of zs
--   ExplainsAt p zs l here g c     g gone and c come explain the letter l, with values at the points zs, beside here
--   IsLetterOf p zs ns l           l is the letter of the list ns at the points zs
--   OneExplanationAt               two explanations of at most 2 k + 1 numbers together, k the number of points, are one
--   TrueDifferenceAt               what differs between two lists explains the letter of one beside the other
--   SameValuesAt                   lists of one length with the same values are equal or differ in more than 2 k + 1 numbers
--   BroughtTogetherAt              reading a letter finds what differs, or tells that it is too many
use Rattle.std.specs.Prelude.{◌≡◌, ℕ, ◌+◌, ◌*◌, ◌<◌, ◌≤◌, true, ◌⊎◌, List, length}
use Rattle.field.specs.Prime.{Prime}
use Rattle.field.specs.Polynomial.{Distinct, Below}
use Rattle.sorted.specs.Lists.{rising, all_below, only, differ, brought}
use Rattle.letter.specs.Letter.{values, Letter}
use Rattle.explain.specs.Explanation.{fits_at, all_in, none_in}

pub record Off (p : ℕ) (zs ns : List ℕ) : Type 0 where
  pub small : all_below p ns ≡ true
  pub off_points : none_in ns zs ≡ true

pub record ExplainsAt (p : ℕ) (zs : List ℕ) (l : Letter) (here gone come : List ℕ) : Type 0 where
  pub gone_rising : rising gone ≡ true
  pub come_rising : rising come ≡ true
  pub come_off : Off p zs come
  pub gone_here : all_in gone here ≡ true
  pub come_not : none_in come here ≡ true
  pub count : l.many + length gone ≡ length here + length come
  pub fits : fits_at p zs l.at here gone come ≡ true

pub record IsLetterOf (p : ℕ) (zs ns : List ℕ) (l : Letter) : Type 0 where
  pub counts : l.many ≡ length ns
  pub evaluates : l.at ≡ values p zs ns

abbrev pub OneExplanationAt : Type 0
OneExplanationAt =
    (p : ℕ) (zs : List ℕ) (l : Letter) (here g c h e : List ℕ) → Prime p → Distinct zs → Below p zs → Off p zs here →
    ExplainsAt p zs l here g c → ExplainsAt p zs l here h e →
    length g + length c + (length h + length e) ≤ 2 * length zs + 1 → (g ≡ h) × (c ≡ e)

abbrev pub TrueDifferenceAt : Type 0
TrueDifferenceAt =
    (p : ℕ) (zs : List ℕ) (l : Letter) (there here : List ℕ) → rising there ≡ true → rising here ≡ true → Off p zs there →
    IsLetterOf p zs there l → ExplainsAt p zs l here (only here there) (only there here)

abbrev pub SameValuesAt : Type 0
SameValuesAt =
    (p : ℕ) (zs xs ys : List ℕ) → Prime p → Distinct zs → Below p zs → rising xs ≡ true → rising ys ≡ true → Off p zs xs → Off p zs ys →
    length xs ≡ length ys → values p zs xs ≡ values p zs ys → (xs ≡ ys) ⊎ (2 * length zs + 1 < differ xs ys)

abbrev pub BroughtTogetherAt : Type 0
BroughtTogetherAt =
    (p : ℕ) (zs : List ℕ) (d : ℕ) (l : Letter) (there here : List ℕ) → Prime p → Distinct zs → Below p zs → d ≤ length zs →
    rising there ≡ true → rising here ≡ true → Off p zs there → Off p zs here → IsLetterOf p zs there l →
    (differ there here ≤ d →
    (gone come : List ℕ) → ExplainsAt p zs l here gone come → length gone + length come ≤ d → brought here gone come ≡ there)
    × (d < differ there here → differ there here + d ≤ 2 * length zs + 1 →
    (gone come : List ℕ) → ExplainsAt p zs l here gone come → length gone + length come ≤ d → ⊥)
