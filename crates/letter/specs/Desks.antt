-- What a desk holds, and what it answers.
--
--   desk_of d       a desk's list and the letter that it keeps
--   desk_size d     how many values that letter has
--   Opened, NotOpened   a desk for m values, empty; or the refusal, and that it is due
--   Told k i e      the refusal e is told with the number k and the place i
--   Stops p m ns x e    the deed x cannot be done at the list ns, and e is the first reason that applies
--   Came, NotCame, Went, NotWent   what a number does that comes or goes, and why it is not done
--   deed_of x       a deed at a desk, as a number that comes or goes
--   DeedDone, DeedNotDone   the same of any deed at a desk
use Rattle.std.specs.Prelude.{◌≡◌, ℕ, ◌+◌, ◌-◌, ◌%◌, ◌^◌, ◌<◌, ◌≤◌, true, false, ◌⊎◌, List, length}
use Rattle.sorted.specs.Lists.{has, rising, all_below}
use Rattle.sorted.specs.Sorted.{items_of}
use Rattle.letter.specs.Letter.{Desk as Held, Deed, comes, goes, step, bare, letter}
use Rattle.letter.specs.Rows.{numbers}
use Rattle.letter.specs.Refusals.{number, place, capacity}
use Rattle.letter.specs.declared.desks.Desk.{Desk}
use Rattle.letter.specs.declared.desks.Deed.{Deed as Asked}
use Rattle.letter.specs.declared.desks.Deed.TheVariants.{Comes, Goes}
use Rattle.letter.specs.declared.refusals.Refusal.{Refusal}
use Rattle.letter.specs.declared.refusals.Refusal.TheVariants.{Memory}

unfoldable pub desk_of : {p : ℕ} → Desk p → Held
desk_of d =
    record {
      list = items_of d.list;
      letter_now = record { many = length (items_of d.list); at = numbers d.kept };
    }

abbrev pub desk_size : {p : ℕ} → Desk p → ℕ
desk_size d = d.nodes.len

pub record Opened (p m : ℕ) (d : Desk p) : Type 0 where
  pub few : m ≤ 64
  pub room : m < p
  pub size : desk_size d ≡ m
  pub empty : desk_of d ≡ bare p m

-- m is above 64, or not below the modulus
pub record NotOpened (p m : ℕ) (e : Refusal) : Type 0 where
  pub due : (64 < m) ⊎ (p ≤ m)
  pub number_is : number e ≡ 1
  pub place_is : place e ≡ 0

abbrev pub Told : ℕ → ℕ → Refusal → Type 0
Told k i e = (number e ≡ k) × (place e ≡ i)

-- the deed x cannot be done at the list ns, and e is the first reason that applies
abbrev pub Stops : ℕ → ℕ → List ℕ → Deed → Refusal → Type 0
Stops p m ns (comes n) e =
    (Told 5 n e × ((p - m ≤ n) ⊎ (has ns n ≡ true)))
    ⊎ ((Told 7 capacity e × ((n < p - m) × (has ns n ≡ false) × (capacity ≤ length ns)))
    ⊎ ((e ≡ Memory) × ((n < p - m) × (has ns n ≡ false) × (length ns < capacity))))
Stops p m ns (goes n) e = (has ns n ≡ false) × Told 6 n e

-- n came: the desk afterwards is one step on, and one product was made at each point
pub record Came (p m n : ℕ) (before after : Held) (start finish : ℕ) : Type 0 where
  pub small : n < p - m
  pub new : has before.list n ≡ false
  pub space : length before.list < capacity
  pub stepped : after ≡ step p m before (comes n)
  pub counted : finish ≡ (start + m) % 2 ^ 64

-- n did not come: nothing changed, no product was made, and the first reason that applies is told
pub record NotCame (p m n : ℕ) (before after : Held) (start finish : ℕ) (e : Refusal) : Type 0 where
  pub same : after ≡ before
  pub uncounted : finish ≡ start
  pub why : Stops p m before.list (comes n) e

pub record Went (p m n : ℕ) (before after : Held) (start finish : ℕ) : Type 0 where
  pub there : has before.list n ≡ true
  pub stepped : after ≡ step p m before (goes n)
  pub counted : finish ≡ (start + m) % 2 ^ 64

pub record NotWent (n : ℕ) (before after : Held) (start finish : ℕ) (e : Refusal) : Type 0 where
  pub same : after ≡ before
  pub uncounted : finish ≡ start
  pub missing : has before.list n ≡ false
  pub told : Told 6 n e

abbrev pub deed_of : Asked → Deed
deed_of (Comes n) = comes n
deed_of (Goes n) = goes n

abbrev pub DeedDone : ℕ → ℕ → Asked → Held → Held → ℕ → ℕ → Type 0
DeedDone p m (Comes n) before after start finish = Came p m n before after start finish
DeedDone p m (Goes n) before after start finish = Went p m n before after start finish

abbrev pub DeedNotDone : ℕ → ℕ → Asked → Held → Held → ℕ → ℕ → Refusal → Type 0
DeedNotDone p m (Comes n) before after start finish e = NotCame p m n before after start finish e
DeedNotDone p m (Goes n) before after start finish e = NotWent n before after start finish e

-- the letter kept is the letter of the list, which rises and is below p - m
pub record UpToDate (p m : ℕ) (d : Held) : Type 0 where
  pub letter_is : d.letter_now ≡ letter p m d.list
  pub in_order : rising d.list ≡ true
  pub small : all_below (p - m) d.list ≡ true

-- n may not come: it is not below p - m, or it is there
abbrev pub Barred : ℕ → ℕ → List ℕ → ℕ → Type 0
Barred p m ns n = (p - m ≤ n) ⊎ (has ns n ≡ true)

-- n may come, and is x modulo p
pub record Welcome (p m : ℕ) (ns : List ℕ) (n x : ℕ) : Type 0 where
  pub small : n < p - m
  pub new : has ns n ≡ false
  pub residue : x ≡ n
