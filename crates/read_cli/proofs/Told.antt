-- The reader's answer says that what it tells stands in the row.
use Rattle.std.proofs.Common.{ℕ, ◌+◌, List, ◌++◌, length, drop, ap, arith}
use Rattle.std.proofs.lemmas.List.{length-append}
use Rattle.decode.specs.Entry.{ReadSays}
use Rattle.decode.specs.declared.entry.Reply.{Reply}
use Rattle.decode.specs.declared.entry.Reply.TheVariants.{These, More, Refused}
use Rattle.read_cli.specs.Told.{Within}

pub within
    : (p : ℕ) (note here out : List ℕ) (d : ℕ) (r : Reply) (out₁ : List ℕ)
    → ReadSays p note here out d r out₁ → Within r (length out₁)
within p note here out d (These went came) out₁ (sound, told) =
    let rest = drop (length told.gone + length told.come) out in
    omega (
      arith,
      told.gone_count,
      told.come_count,
      ap length told.row,
      length-append told.gone (told.come ++ rest),
      length-append told.come rest,
    )
within p note here out d More out₁ says = tt
within p note here out d (Refused e) out₁ says = tt
