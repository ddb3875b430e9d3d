-- What a site does with a list that it read. Assumes nothing: these are definitions.
--
--   going w gone                 the numbers that go: all that are gone where the list is taken, none where lists are put together
--   taken_up w here gone come    the list afterwards
--   Untaken p w here gone come e  why it is not taken up: want of memory, or one of the deeds, in their order, cannot be done
use Rattle.std.specs.Prelude.{◌≡◌, ℕ, ◌⊎◌, List, []}
use Rattle.sorted.specs.Lists.{put_all, brought}
use Rattle.letter.specs.Exchanges.{Stopped, replacing}
use Rattle.letter.specs.declared.refusals.Refusal.{Refusal}
use Rattle.letter.specs.declared.refusals.Refusal.TheVariants.{Memory}
use Rattle.sites.specs.declared.ladder.Way.{Way}
use Rattle.sites.specs.declared.ladder.Way.TheVariants.{Take, Join}

abbrev pub going : Way → List ℕ → List ℕ
going Take gone = gone
going Join gone = []

abbrev pub taken_up : Way → List ℕ → List ℕ → List ℕ → List ℕ
taken_up Take here gone come = brought here gone come
taken_up Join here gone come = put_all come here

unfoldable pub Untaken : ℕ → Way → List ℕ → List ℕ → List ℕ → Refusal → Type 0
Untaken p w here gone come e = (e ≡ Memory) ⊎ Stopped p 64 here (replacing (going w gone) come) e
