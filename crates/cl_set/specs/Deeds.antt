-- What an operation adds, and whether what its process is told fits it. (Gelernter 1985.)
use Rattle.std.specs.Prelude.{Bool, true, List, [], ◌∷◌, Option, Some, None}
use Rattle.cl_value.specs.Acts.{ask_of, reply_of, fits}
use Rattle.cl_value.specs.Plain.{PlainAsk, Out, Land, PlainWhat, PlainReply}
use Rattle.cl_value.specs.declared.value.Value.{Value}

-- the tuple that an operation adds
abbrev pub tuple_added : PlainAsk → List (List Value)
tuple_added (Out t) = t ∷ []
tuple_added (Land t) = t ∷ []
tuple_added _ = []

-- whether a reply fits an operation, where there is one
abbrev pub fits_if_any : PlainAsk → Option PlainReply → Bool
fits_if_any ask None = true
fits_if_any ask (Some reply) = fits ask reply

-- whether what a process is told of its operation fits it
abbrev pub reply_fits : PlainWhat → Bool
reply_fits what = fits_if_any (ask_of what) (reply_of what)
