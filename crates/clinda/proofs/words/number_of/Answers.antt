use Rattle.std.proofs.Common.{rules, ◌≡◌, ◌≢◌, ℕ, ◌<◌, ◌≤◌, ◌^◌, Option, length, get_or, IfSome, IfNone, subst, sym}
use Rattle.std.specs.Fmt.{decimal}
use Rattle.clinda.proofs.Numbers.{some_digits, no_plus, no_zero, read_is_written, refused_is_unwritten}
use Rattle.clinda.proofs.words.number_of.Goals as goal

pub returns-then-is_empty-clause-none : goal.returns-then-is_empty-clause-none
returns-then-is_empty-clause-none c = λ n small. some_digits c.args.word.now n (search rules) small

pub returns-then-bytes-eq43-clause-none : goal.returns-then-bytes-eq43-clause-none
returns-then-bytes-eq43-clause-none c = λ n small. no_plus c.args.word.now n (search rules) small

pub returns-then-bytes-gt1-clause-none : goal.returns-then-bytes-gt1-clause-none
returns-then-bytes-gt1-clause-none c = λ n small. no_zero c.args.word.now n (search rules) (search rules) small

pub returns-clause-written : goal.returns-clause-written
returns-clause-written c =
    let plain : get_or c.args.word.now 0 0 ≢ 43 = search rules in
    let single : get_or c.args.word.now 0 0 ≡ 48 → length c.args.word.now ≤ 1 = search rules in
    subst (λ (o : Option ℕ). IfSome o (λ n. c.args.word.now ≡ decimal n)) (sym c.ok.ensures.value) (read_is_written c.args.word.now _ plain single c.parse.ensures.value.0)

pub returns-clause-none : goal.returns-clause-none
returns-clause-none c =
    subst (λ (o : Option ℕ). IfNone o ((n : ℕ) → n < 2 ^ 64 → c.args.word.now ≢ decimal n)) (sym c.ok.ensures.value) (refused_is_unwritten c.args.word.now _ c.parse.ensures.value.0)
