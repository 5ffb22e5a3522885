use Rattle.std.proofs.Common.{◌∙◌, ap, sym, arith, length}
use Rattle.std.specs.Prelude.{slice_get, map, option_map}
use Rattle.std.proofs.lemmas.Option.{slice_get-map}
use Rattle.std.proofs.lemmas.List.{length-map}
use Rattle.cl_code.specs.Plain.{plain_function}
use Rattle.cl_code.specs.declared.parts.ProgramParts.{ProgramParts}
use Rattle.cl_vm.proofs.outermost.function_of.Goals as goal

pub at-requires : goal.at-requires
at-requires c =
    let long = length-map c.args.program.now.functions.items plain_function in
    let same = ap (λ (q : ProgramParts). length q.functions.items) c.parts-parts.ensures.same in
    omega (arith, c.requires, long, same)

pub returns : goal.returns
returns c =
    ap (λ (q : ProgramParts). slice_get (map plain_function q.functions.items) c.args.k) (sym c.parts-parts.ensures.same)
    ∙ slice_get-map plain_function c.parts-parts.result.now.functions.items c.args.k
    ∙ ap (λ o. option_map plain_function o) c.at.ensures
