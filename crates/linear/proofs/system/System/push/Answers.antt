use Rattle.std.proofs.Common.{[], ◌∷◌, ◌++◌, map, take, refl, ap, ◌∙◌, arith}
use Rattle.linear.specs.Systems.{equation, equations}
use Rattle.linear.proofs.Places.{length_numbers}
use Rattle.linear.proofs.Equations.{equation_new, equations_push, equations_length}
use Rattle.linear.proofs.system.System.push.Goals as goal

pub returns-then-coefficients-self : goal.returns-then-coefficients-self
returns-then-coefficients-self g c =
    (refl, λ e. omega (arith, c.if-coefficients-self.true, length_numbers c.args.coefficients.now, e))

pub returns-then-self-eq-LIMIT : goal.returns-then-self-eq-LIMIT
unfolding equations
returns-then-self-eq-LIMIT g c = (
  refl,
  (
    length_numbers c.args.coefficients.now ∙ c.if-coefficients-self.false,
    equations_length c.args.self.now.unknowns c.args.self.now.count c.args.self.now.rows
        (omega (arith, c.args.self.now.few, c.args.self.now.sized))
        ∙ c.if-self-eq-LIMIT.true,
  ),
)

pub returns : goal.returns
unfolding equations
returns g c =
    let s = c.args.self.now in
    record {
      long = length_numbers c.args.coefficients.now ∙ c.if-coefficients-self.false;
      room =
          omega (
            arith,
            equations_length s.unknowns s.count s.rows (omega (arith, s.few, s.sized)),
            s.few,
            c.if-self-eq-LIMIT.false,
          );
      unknowns = refl {a = c.args.self.now.unknowns};
      equations =
          equations_push s.unknowns s.count s.rows c.new.result
          (omega (arith, s.few, s.sized, c.if-self-eq-LIMIT.false))
          ∙ ap (λ e. map (λ r. equation s.unknowns r.cells) (take s.count s.rows) ++ e ∷ [])
          (equation_new s.unknowns c.args.right.value c.args.coefficients.now c.new.result.cells
          c.if-coefficients-self.false s.narrow c.new.result.sized c.new.ensures);
    }
