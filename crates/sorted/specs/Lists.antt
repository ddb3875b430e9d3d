-- Lists of numbers by rising number, each once: membership, insertion, removal, and what differs between two lists.
-- pick b x y           x where b is true, else y
-- has xs n             n is in xs
-- rising xs            each number of xs is above the one before it
-- all_below b xs       each number of xs is below b
-- put n xs             xs with n at its sorted place, unchanged where n is there
-- without n xs         xs without n
-- only xs ys           what of xs is not in ys
-- differ xs ys         how many numbers are in one of xs and ys and not in the other
-- put_all ns ms        ms with every number of ns put in: the union
-- without_all ns ms    ms without the numbers of ns
-- brought xs gone come xs without the numbers of gone, and with those of come
use Rattle.std.specs.Prelude.{ℕ, ◌+◌, Bool, true, false, ◌&&◌, List, [], ◌∷◌, length, ◌==◌, nat_lt}

abbrev pub pick : {A : Type 0} → Bool → A → A → A
pick true a b = a
pick false a b = b

abbrev pub or : Bool → Bool → Bool
or true b = true
or false b = b

unfoldable pub has : List ℕ → ℕ → Bool
has [] n = false
has (m ∷ ms) n = or (m == n) (has ms n)

unfoldable pub rising : List ℕ → Bool
rising [] = true
rising (m ∷ []) = true
rising (m ∷ n ∷ ns) = nat_lt m n && rising (n ∷ ns)

unfoldable pub all_below : ℕ → List ℕ → Bool
all_below b [] = true
all_below b (n ∷ ns) = nat_lt n b && all_below b ns

unfoldable pub put : ℕ → List ℕ → List ℕ
put n [] = n ∷ []
put n (m ∷ ms) = pick (nat_lt n m) (n ∷ m ∷ ms) (pick (n == m) (m ∷ ms) (m ∷ put n ms))

unfoldable pub without : ℕ → List ℕ → List ℕ
without n [] = []
without n (m ∷ ms) = pick (n == m) ms (m ∷ without n ms)

unfoldable pub only : List ℕ → List ℕ → List ℕ
only [] bs = []
only (a ∷ rest) bs = pick (has bs a) (only rest bs) (a ∷ only rest bs)

unfoldable pub differ : List ℕ → List ℕ → ℕ
differ xs ys = length (only xs ys) + length (only ys xs)

unfoldable pub put_all : List ℕ → List ℕ → List ℕ
put_all [] ms = ms
put_all (n ∷ ns) ms = put n (put_all ns ms)

unfoldable pub without_all : List ℕ → List ℕ → List ℕ
without_all [] ms = ms
without_all (n ∷ ns) ms = without n (without_all ns ms)

unfoldable pub brought : List ℕ → List ℕ → List ℕ → List ℕ
brought xs gone come = put_all come (without_all gone xs)
