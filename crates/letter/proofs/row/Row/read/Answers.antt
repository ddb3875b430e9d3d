-- Each turn reads one word more, or stops at it.
use Rattle.std.proofs.Common.{◌≡◌, ℕ, ◌<◌, length, get_or, take, replicate, refl, ◌∙◌, subst, mod-eq_of_lt, arith}
use Rattle.std.proofs.lemmas.List.{length-replicate, length-set, length-take, length-take-le, get_or-take}
use Rattle.field.specs.Plain.{plain}
use Rattle.letter.specs.Rows.{numbers}
use Rattle.letter.specs.Slices.{ValuesTo}
use Rattle.letter.proofs.Filled.{Filled, filled_none, filled_residue, filled_take, plain_length}
use Rattle.letter.proofs.Words.{values_none, values_more, values_length}
use Rattle.letter.proofs.row.Row.read.Goals as goal

pub loop-i-init : goal.loop-i-init
loop-i-init g c = (
  length-replicate 64 c.new-at.result,
  filled_none (λ k. get_or c.args.words.now k 0) (plain (replicate 64 c.new-at.result)),
  values_none g.row.P c.args.words.now,
)

pub loop-i-preserved : goal.loop-i-preserved
loop-i-preserved g c =
    let i : ℕ = c.loop-i.i in
    let words = c.args.words.now in
    let start = replicate 64 c.new-at.result in
    let size : length (plain start) ≡ 64 = plain_length start ∙ length-replicate 64 c.new-at.result in
    let long = length-take c.min.result words in
    let there : i < length words = omega arith in
    let here : get_or (take c.min.result words) i 0 ≡ get_or words i 0 = get_or-take c.min.result words i 0 (omega arith) in
    let low : get_or words i 0 < g.row.P = omega (arith, here, c.if-word.false) in (
      length-set c.loop-i.at i c.new.result ∙ c.loop-i.invariant.0,
      filled_residue (λ k. get_or words k 0) (plain start) c.loop-i.at i c.new.result c.loop-i.invariant.1
          (omega arith)
          (c.new.ensures ∙ mod-eq_of_lt c.if-word.false ∙ here),
      values_more g.row.P words i c.loop-i.invariant.2 (there, low),
    )

pub returns : goal.returns
unfolding numbers
returns g c =
    let words = c.args.words.now in
    let m = c.args.m in
    let start = replicate 64 c.new-at.result in
    let size : length (plain start) ≡ 64 = plain_length start ∙ length-replicate 64 c.new-at.result in
    let long = length-take c.min.result words in
    let ended : c.loop-i.i ≡ c.args.m = omega arith in
    let each : ValuesTo g.row.P words m = subst (λ (k : ℕ). ValuesTo g.row.P words k) ended c.loop-i.invariant.2 in (
      refl,
      filled_take (λ k. get_or words k 0) (plain start) (plain c.loop-i.at) m (take m words)
          (subst (λ (k : ℕ). Filled (λ j. get_or words j 0) (plain start) (plain c.loop-i.at) k) ended c.loop-i.invariant.1)
          (omega arith)
          (length-take-le m words (values_length g.row.P words m each))
          (λ k below. get_or-take m words k 0 below),
      each,
    )
