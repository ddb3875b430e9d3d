use Rattle.std.proofs.Common.{◌≡◌, refl, sym}
use Rattle.letter.specs.Refusals.{number, place, refusal_text, refused_text}
use Rattle.letter.specs.declared.refusals.Refusal.{Refusal}
use Rattle.letter.specs.declared.refusals.Refusal.TheVariants.{Letter, Allowance, Short, Comes, Goes, Full, Site, Memory}
use Rattle.letter.proofs.refusals.RefusalDisplay.fmt.Goals as goal

numbered : (e : Refusal) → (e ≡ Memory → ⊥) → refused_text (number e) (place e) ≡ refusal_text e
unfolding refusal_text
numbered (Letter i) some = refl
numbered (Refusal.List i) some = refl
numbered (Allowance d) some = refl
numbered (Short n) some = refl
numbered (Comes n) some = refl
numbered (Goes n) some = refl
numbered Full some = refl
numbered (Site i) some = refl
numbered Memory some = absurd (some refl)

pub returns-in-Memory-clause-writes : goal.returns-in-Memory-clause-writes
unfolding refusal_text
returns-in-Memory-clause-writes g c = rw c.in-Memory.is c.write_str.ensures.writes

pub returns-in_default : goal.returns-in_default
unfolding refused_text
returns-in_default g c =
    record {
      writes =
          rw (sym (numbered c.args.self.now c.in_default.not-Memory))
          (rw (c.number-number.ensures, c.place-place.ensures) at c.write.ensures.writes);
      styled = tt;
    }
