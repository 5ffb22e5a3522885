-- How a call ends by its input, from what became of its parts.
use Rattle.std.proofs.Common.{◌≡◌, ℕ, List, Option, None, refl, sym, ap, ◌∙◌}
use Rattle.cl_value.specs.Plain.{PlainRun}
use Rattle.cl_ast.specs.declared.statement.Item.{Item}
use Rattle.cl_print.specs.Back.{ReadsAs}
use Rattle.cl_print.proofs.Back.{text_reads_back}
use Rattle.cl_front.specs.Front.{IsReadAs}
use Rattle.cl_front.specs.Reading.{Reading, trees, programs}
use Rattle.cl_front.specs.Reading as reading
use Rattle.cl_front.specs.declared.refusal.Refusal.{Refusal}
use Rattle.clinda.specs.Refusals.{Printed, printed}
use Rattle.clinda.specs.Saying.{Speaks}
use Rattle.clinda.specs.Making.{HasProgram, IsRefused, Ended, Made, Unmade, refusal_saying}
use Rattle.clinda.specs.Making as making
use Rattle.clinda.specs.Printing.{RefusesSo, text_saying, print_maker}
use Rattle.clinda.specs.Running.{Ran, Reported, Unreported, run_saying, seq_maker}

-- what a way of reading takes as a tree is the program of its maker
print_has : (source : List ℕ) (items : List Item) → reading.IsTaken trees source items → HasProgram print_maker source items
print_has source items taken = record { is = taken.is; alone = taken.alone; fine = λ refusal refuses. taken.fine refuses.found refuses.refuses }

seq_has : (ticks entries : ℕ) (source : List ℕ) (items : List Item) → reading.IsTaken programs source items → HasProgram (seq_maker ticks entries) source items
seq_has ticks entries source items taken = record { is = taken.is; alone = taken.alone; fine = λ refusal refuses. taken.fine refuses.found refuses.refuses }

-- what a way of reading refuses is refused by its maker, as it is printed
same_printed : (way : Reading) (source : List ℕ) (refusal : Refusal) → reading.IsRefused way source refusal → (other : Printed) → RefusesSo way source other → printed source refusal ≡ other
same_printed way source refusal is other refuses = ap (printed source) (is.alone refuses.found refuses.refuses) ∙ sym refuses.is

print_refused : (source : List ℕ) (refusal : Refusal) → reading.IsRefused trees source refusal → IsRefused print_maker source (printed source refusal)
print_refused source refusal is = record { none = is.none; is = record { found = refusal; refuses = is.is; is = refl }; alone = same_printed trees source refusal is }

seq_refused : (ticks entries : ℕ) (source : List ℕ) (refusal : Refusal) → reading.IsRefused programs source refusal → IsRefused (seq_maker ticks entries) source (printed source refusal)
seq_refused ticks entries source refusal is = record { none = is.none; is = record { found = refusal; refuses = is.is; is = refl }; alone = same_printed programs source refusal is }

-- what is read as a tree is so in the terms of the printer
reads_as : (source : List ℕ) (items : List Item) → IsReadAs source items → ReadsAs 64 source items
reads_as source items is =
    let d = is.tree.derived in
    record { read = is.tokens; splits = is.splits; derivation = d.derivation; member = d.member; spelled = d.spelled; nesting = d.nesting; tree = d.tree }

module _ (source : List ℕ) (status : ℕ) (report : Option PlainRun) (before after : Option (List ℕ)) (f g : ℕ) where
  pub print_shown : (items : List Item) → reading.IsTaken trees source items → report ≡ None → Speaks (text_saying items) status before after f g → Ended print_maker source status report before after f g
  print_shown items taken none speaks =
      Made items (print_has source items taken) (text_saying items) (record { no_run = none; said = refl; back = text_reads_back 64 source items (reads_as source items taken.is) }) speaks

  pub print_refuses : (refusal : Refusal) → reading.IsRefused trees source refusal → report ≡ None → Speaks (refusal_saying (printed source refusal)) status before after f g → Ended print_maker source status report before after f g
  print_refuses refusal is none speaks = making.Refused (printed source refusal) (print_refused source refusal is) none speaks

  pub seq_ran : (ticks entries : ℕ) (items : List Item) → reading.IsTaken programs source items → Ran ticks entries items status report before after f g → Ended (seq_maker ticks entries) source status report before after f g
  seq_ran ticks entries items taken (Reported run told is speaks) = Made items (seq_has ticks entries source items taken) (run_saying items run) (record { run = run; told = told; is = is; said = refl }) speaks
  seq_ran ticks entries items taken (Unreported none silent) = Unmade none silent

  pub seq_refuses : (ticks entries : ℕ) (refusal : Refusal) → reading.IsRefused programs source refusal → report ≡ None → Speaks (refusal_saying (printed source refusal)) status before after f g → Ended (seq_maker ticks entries) source status report before after f g
  seq_refuses ticks entries refusal is none speaks = making.Refused (printed source refusal) (seq_refused ticks entries source refusal is) none speaks
