use Rattle.std.proofs.Common.{◌≡◌, ℕ, ◌%◌, length, get_or, replicate, map, refl, ◌∙◌, subst, arith}
use Rattle.std.proofs.lemmas.List.{length-replicate, length-set, length-map, get_or-map}
use Rattle.field.specs.Plain.{plain}
use Rattle.letter.specs.Rows.{numbers}
use Rattle.letter.proofs.Filled.{Filled, filled_residue, filled_take, plain_length}
use Rattle.letter.proofs.row.Row.reduced.Goals as goal

pub loop-i-preserved : goal.loop-i-preserved
loop-i-preserved g c =
    let start = replicate 64 c.new-at.result in
    let size : length (plain start) ≡ 64 = plain_length start ∙ length-replicate 64 c.new-at.result in (
      length-set c.loop-i.at c.loop-i.i c.new.result ∙ c.loop-i.invariant.0,
      filled_residue (λ k. get_or c.args.words.now k 0 % g.row.P) (plain start) c.loop-i.at c.loop-i.i c.new.result
          c.loop-i.invariant.1 (omega arith) c.new.ensures,
    )

pub returns : goal.returns
unfolding numbers
returns g c =
    let start = replicate 64 c.new-at.result in
    let words = c.args.words.now in
    let size : length (plain start) ≡ 64 = plain_length start ∙ length-replicate 64 c.new-at.result in
    let ended : c.loop-i.i ≡ length words = omega arith in (
      refl,
      filled_take (λ k. get_or words k 0 % g.row.P) (plain start) (plain c.loop-i.at) (length words)
          (map (λ (n : ℕ). n % g.row.P) words)
          (subst (λ (k : ℕ). Filled (λ j. get_or words j 0 % g.row.P) (plain start) (plain c.loop-i.at) k) ended
          c.loop-i.invariant.1)
          (omega arith)
          (length-map words (λ n. n % g.row.P))
          (λ k below. get_or-map (λ n. n % g.row.P) words k 0 0 below),
    )
