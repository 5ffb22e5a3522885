use Rattle.cl_value.specs.Views.{plain_request}
use Rattle.cl_walk.specs.Views.{reply_in}
use Rattle.cl_alone.proofs.Kept.{done_sound, done_said}
use Rattle.cl_alone.proofs.space.answered.Goals as goal

pub returns-in-Ok-clause-sound : goal.returns-in-Ok-clause-sound
returns-in-Ok-clause-sound g c =
    done_sound c.args.stage.now c.perform.new.self (plain_request c.args.request) (reply_in c.in-Ok.answer) c.in-Ok.ensures.done

pub returns-in-Ok-clause-said : goal.returns-in-Ok-clause-said
returns-in-Ok-clause-said g c = λ before.
    done_said c.args.stage.now c.perform.new.self (plain_request c.args.request) (reply_in c.in-Ok.answer) before c.in-Ok.ensures.done
