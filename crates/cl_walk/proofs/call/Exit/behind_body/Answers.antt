use Rattle.std.proofs.Common.{refl, inl, inr}
use Rattle.cl_meaning.specs.Statements.{behind_body}
use Rattle.cl_walk.proofs.call.Exit.behind_body.Goals as goal

pub returns-in-Broke : goal.returns-in-Broke
unfolding behind_body
returns-in-Broke c = λ next. rw c.in-Broke.is refl

pub returns-in-Returned : goal.returns-in-Returned
unfolding behind_body
returns-in-Returned c = λ next. rw c.in-Returned.is refl

pub returns-in-WentOn : goal.returns-in-WentOn
unfolding behind_body
returns-in-WentOn c = λ next. elim c.in-WentOn.is [ inl e ↦ rw e refl | inr e ↦ rw e refl ]
