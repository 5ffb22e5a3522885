-- What a process of a valid program may ask for. (This project.)
use Rattle.std.specs.Prelude.{◌≡◌, ℕ, suc, IsTrue, List}
use Rattle.cl_value.specs.Plain.{PlainPart, Eval, PlainRequest, Lives}
use Rattle.cl_sig.specs.Instances.{is_of_its_site}
use Rattle.cl_code.specs.Plain.{PlainProgram}
use Rattle.cl_code.specs.Starts.{start_fits}

-- a request of a process of this depth is an instance of its site's signature, and a process that it makes, one deeper, may begin so
pub record IsRightRequest (p : PlainProgram) (depth : ℕ) (q : PlainRequest) : Type 0 where
  pub instance : IsTrue (is_of_its_site p.sites q)
  pub start : (live : List PlainPart) → q.ask ≡ Eval live → IsTrue (start_fits p (Lives q.site live (suc depth)))
