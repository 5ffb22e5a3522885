-- What the log's bytes are good for. (This project's own.)
use Rattle.std.specs.Prelude.{◌≡◌, ℕ, List}
use Rattle.cl_value.specs.Plain.{PlainAct}
use Rattle.cl_log.specs.Spelling.{acts_of, HaveBytes}
use Rattle.cl_log.specs.Reading.{acts_at}

-- acts that have bytes are read from them, each as it was
abbrev pub ReadAsSpelled : Type 0
ReadAsSpelled = (before : ℕ) (acts : List PlainAct) → HaveBytes before acts → acts_at before (acts_of before acts) ≡ acts
