use Rattle.std.proofs.Common.{length, ◌∙◌, ap, sym, arith, subst}
use Rattle.std.specs.Prelude.{slice_get, map, option_map}
use Rattle.std.proofs.lemmas.Option.{slice_get-map}
use Rattle.std.proofs.lemmas.List.{length-map}
use Rattle.cl_sig.specs.Views.{plain_signature}
use Rattle.cl_code.specs.Plain.{plain_program}
use Rattle.cl_code.specs.Valid.{Valid}
use Rattle.cl_code.specs.declared.parts.ProgramParts.{ProgramParts}
use Rattle.cl_vm.proofs.SiteNeeds.{site_within}
use Rattle.cl_vm.proofs.engine.Engine.site_of.Goals as goal

pub at-requires : goal.at-requires
at-requires c =
    let q = c.parts-parts.result.now in
    let valid = subst (λ (r : ProgramParts). Valid (plain_program r)) c.parts-parts.ensures.same c.parts-parts.ensures.valid in
    let within = site_within (plain_program c.args.program.now) valid c.each_height_is_met.ensures.heights c.each_height_is_met.ensures.stacks c.each_instruction_leads_on.ensures.steps c.args.self.now c.requires.runs c.args.site c.requires.here in
    let same = ap (λ (r : ProgramParts). length (map plain_signature r.sites.items)) c.parts-parts.ensures.same in
    let long = length-map q.sites.items plain_signature in
    omega (arith, within, long, same)

pub returns-clause-is : goal.returns-clause-is
returns-clause-is c =
    ap (λ (q : ProgramParts). slice_get (map plain_signature q.sites.items) c.args.site) (sym c.parts-parts.ensures.same)
    ∙ slice_get-map plain_signature c.parts-parts.result.now.sites.items c.args.site
    ∙ ap (λ o. option_map plain_signature o) c.at.ensures
