-- The histories and runs of a text and of its code.
use Rattle.std.proofs.Common.{◌≡◌, ℕ, true, List, ap, subst}
use Rattle.cl_ast.specs.declared.statement.Item.{Item}
use Rattle.cl_model.specs.Agree.{AgreeingRunAlike}
use Rattle.cl_meaning.specs.Process as meaning
use Rattle.cl_cases.specs.Literals.{literals_fit, SourcesFit}
use Rattle.cl_cases.specs.Ranges.{HistoriesStayWithin}
use Rattle.cl_instances.specs.Laws.{ProcessesBeganRight}
use Rattle.cl_instances.specs.Programs.{StartsFitPrograms}
use Rattle.cl_instances.specs.SetLaws.{ProcessesBegin}
use Rattle.cl_instances.specs.Sources.{IsRead}
use Rattle.cl_code.specs.Process as code
use Rattle.cl_translation.specs.Laws.{TheCodeDemandsTheSame, TheCodeRunsAlike}

-- each literal of a source fits
literals : SourcesFit → (source : List ℕ) (xs : List Item) → IsRead source xs → literals_fit xs ≡ true
literals fit source xs read = subst (λ ys. literals_fit ys ≡ true) read.tree (fit source read.spelled read.splits read.derivation read.tokens_are)

-- by the public laws of texts, of their histories and of programs
pub runs_alike : AgreeingRunAlike → TheCodeDemandsTheSame → SourcesFit → HistoriesStayWithin → ProcessesBeganRight → ProcessesBegin → StartsFitPrograms → TheCodeRunsAlike
runs_alike alike same fit within began begins starts source xs read clean p is valid ticks =
    alike (code.demands p ticks) (meaning.demands xs ticks) (λ acts legal name q stands.
    let inside = (within xs clean (literals fit source xs read) ticks acts legal).1 name q stands in
    ap code.as_demand (same xs p is valid ticks q.start (began source xs read clean ticks acts legal name q stands) inside.0 (starts source xs read clean p is.text q.start (begins source xs read clean ticks acts legal name q stands)) q.replies inside.1))
