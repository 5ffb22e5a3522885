use Rattle.std.proofs.Common.{◌≡◌, ◌∙◌, ap, sym, subst, true}
use Rattle.std.specs.Prelude.{map}
use Rattle.cl_value.specs.LiveViews.{plain_live, plain_part}
use Rattle.cl_value.specs.Plain.{Lives}
use Rattle.cl_ground.specs.Room.{Room}
use Rattle.cl_value.specs.Views.{plain_start}
use Rattle.cl_value.specs.declared.live.LiveField.{LiveField}
use Rattle.cl_value.specs.declared.process.Start.{Start}
use Rattle.cl_code.specs.Plain.{plain_program}
use Rattle.cl_code.specs.Starts.{start_fits}
use Rattle.cl_code.specs.Valid.{Valid}
use Rattle.cl_code.specs.declared.parts.ProgramParts.{ProgramParts}
use Rattle.cl_vm.specs.Processes.{AllFit}
use Rattle.cl_vm.proofs.StartFits.{live_there}
use Rattle.cl_vm.proofs.vm.Vm.start.Goals as goal

pub make-requires-in-Live-clause-fits : goal.make-requires-in-Live-clause-fits
make-requires-in-Live-clause-fits c =
    let p = plain_program c.args.program.now in
    let valid = subst (λ (q : ProgramParts). Valid (plain_program q)) c.parts-parts.ensures.same c.parts-parts.ensures.valid in
    let fits : start_fits p (Lives c.in-Live.site (plain_live c.in-Live.live) c.in-Live.depth) ≡ true = subst (λ (s : Start). start_fits p (plain_start s) ≡ true) c.in-Live.is c.requires in
    let same : plain_live c.in-Live.live ≡ map plain_part c.into_items-fields.result.items = sym c.in_ok-copy-in-Live.ensures ∙ ap (λ (r : Room LiveField). plain_live r) (sym c.into_items-fields.ensures.same) in
    subst (AllFit p) same (live_there p valid c.in-Live.site (plain_live c.in-Live.live) c.in-Live.depth fits)
