-- Three readings, worked out: letters of three values beside the list 5, 9, 20.
use Rattle.std.specs.Prelude.{[], ◌∷◌}
use Rattle.letter.specs.Letter.{letter}
use Rattle.explain.specs.Explanation.{Found, TooMany}

abbrev pub Readings : Type 0
Readings =
    Found 65537 3 3 (letter 65537 3 (3 ∷ 5 ∷ 20 ∷ [])) (5 ∷ 9 ∷ 20 ∷ []) (9 ∷ []) (3 ∷ [])
    × Found 65537 3 3 (letter 65537 3 (3 ∷ 9 ∷ 20 ∷ 31 ∷ [])) (5 ∷ 9 ∷ 20 ∷ []) (5 ∷ []) (3 ∷ 31 ∷ [])
    × TooMany 65537 3 2 (letter 65537 3 (3 ∷ 9 ∷ 20 ∷ 31 ∷ [])) (5 ∷ 9 ∷ 20 ∷ [])
