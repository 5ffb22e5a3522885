use Rattle.std.proofs.Common.{rules, ◌<◌, ◌^◌, sym, ◌∙◌, arith}
use Rattle.std.proofs.lemmas.Fmt.{decimal_injective}
use Rattle.clinda.proofs.words.number_within.Goals.{then-number-least-via-then-number-least, then-number-least-via-else-number-least+then-most-number}
use Rattle.clinda.proofs.words.number_within.Goals as goal

pub returns-then-number-least-clause-none : goal.returns-then-number-least-clause-none
returns-then-number-least-clause-none c = λ n within written.
    let small : c.in_ok-number.number < 2 ^ 64 = search rules in
    let most : c.args.most < 2 ^ 64 = search rules in
    let same = decimal_injective c.in_ok-number.number n small (omega (arith, most, within.1)) (sym c.in_ok-number.ensures.written ∙ written) in
    elim c.then-number-least.branch [
      | then-number-least-via-then-number-least w ↦ absurd (let less : c.in_ok-number.number < c.args.least = search rules in omega (arith, same, within.0, less))
      | then-number-least-via-else-number-least+then-most-number w ↦ absurd (let less : c.args.most < c.in_ok-number.number = search rules in omega (arith, same, within.1, less))
    ]
