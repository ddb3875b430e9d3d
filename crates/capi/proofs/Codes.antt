-- Different answers have different numbers.
use Rattle.std.proofs.Common.{◌≡◌, min, refl, ap, ◌∙◌, arith}
use Rattle.capi.specs.Answers.{Answer, done, refused, more, code, Plain}

pub codes_differ : (a b : Answer) → Plain a → Plain b → code a ≡ code b → a ≡ b
codes_differ (done g c) (done h d) x y e =
    let same-g : g ≡ h = omega (arith, x.0, x.1, y.0, y.1, e) in
    let same-c : c ≡ d = omega (arith, x.0, x.1, y.0, y.1, e) in
    ap (λ t. done t c) same-g ∙ ap (λ t. done h t) same-c
codes_differ (done g c) (refused l j) x y e = absurd (omega (arith, x.0, x.1, y.0, e))
codes_differ (done g c) more x y e = absurd (omega (arith, x.0, x.1, e))
codes_differ (refused k i) (done h d) x y e = absurd (omega (arith, y.0, y.1, x.0, e))
codes_differ (refused k i) (refused l j) x y e =
    let small-i : min i 4294967295 ≡ i = omega (arith, x.2) in
    let small-j : min j 4294967295 ≡ j = omega (arith, y.2) in
    let same-k : k ≡ l = omega (arith, x.2, y.2, e) in
    let same-i : i ≡ j = omega (arith, x.2, y.2, e) in
    ap (λ t. refused t i) same-k ∙ ap (λ t. refused l t) same-i
codes_differ (refused k i) more x y e = absurd (omega (arith, x.1, x.2, e))
codes_differ more (done h d) x y e = absurd (omega (arith, y.0, y.1, e))
codes_differ more (refused l j) x y e = absurd (omega (arith, y.1, y.2, e))
codes_differ more more x y e = refl
