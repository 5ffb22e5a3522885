use Rattle.std.proofs.Common.{◌≡◌, [], map}
use Rattle.std.proofs.lemmas.List.{length-map}
use Rattle.cl_ast.specs.Views.{plain_token}
use Rattle.cl_token.proofs.Walk.{goes_on, all_reached, only, few, stop_tells, none_then}
use Rattle.cl_token.proofs.lexer.lex.Goals as goal

pub loop-after-preserved : goal.loop-after-preserved
loop-after-preserved c = goes_on c.args.src.now c.loop-after.place.fresh c.loop-after.place.rest.now _ _ _ _ c.loop-after.invariant (rw c.in-Ok-Some.field-0-is at c.in-Ok-Some.ensures.step)

pub returns-in-Ok-None-clause-only : goal.returns-in-Ok-None-clause-only
returns-in-Ok-None-clause-only c =
    let s : (c.loop-after.place.rest.now ≡ []) × (map plain_token c.advance.new.tokens.items ≡ map plain_token c.loop-after.tokens.items) = rw c.in-Ok-None.field-0-is at c.in-Ok-None.ensures.step in
    λ tokens splits. only c.args.src.now _ tokens (all_reached c.args.src.now c.loop-after.place.fresh c.loop-after.place.rest.now (map plain_token c.loop-after.tokens.items) _ c.loop-after.invariant s) splits

pub returns-in-Ok-None-clause-few : goal.returns-in-Ok-None-clause-few
returns-in-Ok-None-clause-few c =
    let s : (c.loop-after.place.rest.now ≡ []) × (map plain_token c.advance.new.tokens.items ≡ map plain_token c.loop-after.tokens.items) = rw c.in-Ok-None.field-0-is at c.in-Ok-None.ensures.step in
    let n = few c.args.src.now (map plain_token c.advance.new.tokens.items) (all_reached c.args.src.now c.loop-after.place.fresh c.loop-after.place.rest.now (map plain_token c.loop-after.tokens.items) _ c.loop-after.invariant s) in
    simp length-map at n

pub returns-in-Err-clause-only : goal.returns-in-Err-clause-only
returns-in-Err-clause-only c = λ tokens splits. none_then c.args.src.now c.end_of.result tokens (stop_tells c.args.src.now c.loop-after.place.fresh c.loop-after.place.rest.now (map plain_token c.loop-after.tokens.items) c.in-Err.stop c.end_of.result c.loop-after.invariant c.in-Err.ensures.step c.end_of.ensures) splits

pub returns-in-Err-clause-fault : goal.returns-in-Err-clause-fault
returns-in-Err-clause-fault c = stop_tells c.args.src.now c.loop-after.place.fresh c.loop-after.place.rest.now (map plain_token c.loop-after.tokens.items) c.in-Err.stop c.end_of.result c.loop-after.invariant c.in-Err.ensures.step c.end_of.ensures
