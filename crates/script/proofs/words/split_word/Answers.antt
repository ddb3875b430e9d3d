use Rattle.std.proofs.Common.{◌≡◌, Some, rules, not, refl, sym, ◌∙◌, arith}
use Rattle.std.proofs.lemmas.Iterator.{YieldsList-from_slice}
use Rattle.std.proofs.lemmas.Iterator.Search.{position_from_yields_List}
use Rattle.std.proofs.lemmas.List.{length-drop, take_all}
use Rattle.std.specs.List.{position}
use Rattle.script.specs.Words.{blank}
use Rattle.script.proofs.Cuts.{last_word, none_begins, word_between}
use Rattle.script.proofs.words.split_word.Goals as goal
use borrow.Author.Tests.{tests}

pub returns-in_err-start : goal.returns-in_err-start
returns-in_err-start c =
    let begins : c.position.result ≡ position (λ b. not (blank b)) c.args.text.now =
    position_from_yields_List (λ b. not (blank b)) _ _ c.position.result c.position.ensures.ran
    (YieldsList-from_slice _ c.iter.ensures.rest) (λ x b q k. search (rules, tests)) in
    rw c.from_residual.ensures (none_begins c.args.text.now (sym c.in_err-start.was ∙ begins))

pub returns-in-Some : goal.returns-in-Some
returns-in-Some c =
    let begins : c.position.result ≡ position (λ b. not (blank b)) c.args.text.now =
    position_from_yields_List (λ b. not (blank b)) _ _ c.position.result c.position.ensures.ran
    (YieldsList-from_slice _ c.iter.ensures.rest) (λ x b q k. search (rules, tests)) in
    let ends =
    position_from_yields_List blank _ _ c.position-2.result c.position-2.ensures.ran
    (YieldsList-from_slice _ c.iter-2.ensures.rest) (λ x b q k. search (rules, tests)) in
    rw (c.split_at.ensures.front, c.split_at.ensures.back)
    (word_between c.args.text.now _ c.in_ok-start.start c.in-Some.end (Some c.in-Some.end)
    (sym c.in_ok-start.was ∙ begins)
    (take_all _ _ (omega (arith, length-drop c.in_ok-start.start c.args.text.now))) (sym c.in-Some.is ∙ ends) refl)

pub returns-in-None : goal.returns-in-None
returns-in-None c =
    let begins : c.position.result ≡ position (λ b. not (blank b)) c.args.text.now =
    position_from_yields_List (λ b. not (blank b)) _ _ c.position.result c.position.ensures.ran
    (YieldsList-from_slice _ c.iter.ensures.rest) (λ x b q k. search (rules, tests)) in
    let ends =
    position_from_yields_List blank _ _ c.position-2.result c.position-2.ensures.ran
    (YieldsList-from_slice _ c.iter-2.ensures.rest) (λ x b q k. search (rules, tests)) in
    last_word c.args.text.now _ c.in_ok-start.start (sym c.in_ok-start.was ∙ begins)
    (take_all _ _ (omega (arith, length-drop c.in_ok-start.start c.args.text.now))) (sym c.in-None.is ∙ ends)
