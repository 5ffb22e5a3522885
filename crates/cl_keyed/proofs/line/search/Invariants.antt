use Rattle.std.proofs.Common.{◌≡◌, ◌+◌, ◌≤◌, map, take, None}
use Rattle.cl_value.specs.Replay.{first_match}
use Rattle.cl_keyed.specs.DatedRows.{values_of}
use Rattle.cl_keyed.proofs.line.search.Given as goal

abbrev pub invariant-loop-place : goal.invariant-loop-place
invariant-loop-place g l =
    record {
      before : first_match (map values_of (take l.place l.rows.items)) l.template.items ≡ None;
      cost : l.steps ≤ l.fn.steps + l.place;
      later : l.fn.steps ≤ l.steps;
    }
