use Rattle.std.proofs.Common.{◌≡◌, ◌∙◌, ◌-◌, ◌≤◌, length, sym, ap, arith, suc, drop, None, Some}
use Rattle.std.specs.Prelude.{slice_get}
use Rattle.cl_state.specs.Views.{innermost}
use Rattle.cl_state.proofs.Places.{inner_found, got}
use Rattle.cl_state.proofs.locals.innermost_in.Goals as goal

pub returns-in-Some : goal.returns-in-Some
returns-in-Some c =
    let last = c.loop-inner.inner - 1 in
    let all = c.args.scopes.now in
    let more : suc last ≡ c.loop-inner.inner = omega (arith, c.loop-inner-test.true) in
    let within : c.loop-inner.inner ≤ length all = c.loop-inner.invariant.0 in
    let at : slice_get all last ≡ Some c.index-scopes-inner.result = got all last c.index-scopes-inner.result (omega (arith, more, within)) c.index-scopes-inner.is in
    let none : innermost c.args.name.now (drop (suc last) all) ≡ None = ap (λ n. innermost c.args.name.now (drop n all)) more ∙ c.loop-inner.invariant.1 in
    sym (inner_found c.args.name.now all last c.in-Some.index c.index-scopes-inner.result at none (sym c.in-Some.ensures))
