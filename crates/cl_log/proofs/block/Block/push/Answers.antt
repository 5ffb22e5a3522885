use Rattle.std.proofs.Common.{◌≤◌, [], ◌∷◌, ◌++◌, ap, sym, subst, ◌∙◌, arith}
use Rattle.std.specs.Option.{option_copied}
use Rattle.cl_value.specs.Tickets.{IsAbove}
use Rattle.cl_value.specs.Views.{plain_ask}
use Rattle.cl_log.specs.Answered.{answered, done, fields_if_any}
use Rattle.cl_log.specs.Logs.{IsBlock}
use Rattle.cl_log.specs.Reading.{acts_at}
use Rattle.cl_log.proofs.Logs.{above_last, more_acts, more_block}
use Rattle.cl_log.proofs.block.Block.push.Goals as goal

pub put_act-requires-clause-later : goal.put_act-requires-clause-later
put_act-requires-clause-later c =
    let above = subst (λ b. IsAbove c.args.ticket b.acts) (sym c.self.view_is) c.requires.above in
    subst (λ n. n ≤ c.args.ticket) (sym c.self.invariant.latest) (above_last 0 c.args.ticket (acts_at 0 c.self.inside.bytes.items) (omega arith) above)

pub invariant_of-self : goal.invariant_of-self
invariant_of-self c =
    let act = done c.args.ticket c.args.name c.args.request.now.site (answered (plain_ask c.args.request.now.ask) (fields_if_any (option_copied c.args.got))) in
    subst (λ bytes. IsBlock bytes c.args.ticket) (sym c.put_act.ensures.bytes) (more_block c.self.inside.bytes.items c.self.inside.last act c.self.invariant c.put_act.ensures.fits)

pub returns : goal.returns
returns c =
    let act = done c.args.ticket c.args.name c.args.request.now.site (answered (plain_ask c.args.request.now.ask) (fields_if_any (option_copied c.args.got))) in
    record {
      acts = ap (acts_at 0) c.put_act.ensures.bytes
          ∙ (more_acts c.self.inside.bytes.items c.self.inside.last act c.self.invariant c.put_act.ensures.fits
          ∙ ap (λ b. b.acts ++ act ∷ []) c.self.view_is);
    }
