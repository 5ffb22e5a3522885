use Rattle.std.proofs.Common.{◌≡◌, ◌++◌, drop}
use Rattle.std.specs.Prelude.{map}
use Rattle.cl_code.specs.Plain.{plain_function}
use Rattle.cl_report.specs.Listing.{functions_text}
use Rattle.cl_report.proofs.functions.add_functions.Given as goal

abbrev pub invariant-loop-number : goal.invariant-loop-number
invariant-loop-number l = l.text ++ functions_text l.code l.number (map plain_function (drop l.number l.functions)) ≡ l.fn.text ++ functions_text l.code 0 (map plain_function l.functions)
