use Rattle.std.proofs.Common.{◌∷◌, ◌++◌, arith, ap, sym, subst, ◌∙◌, slice_index_or, take, drop, length, ◌-◌, refl}
use Rattle.cl_log.specs.Cursors.{acts_behind, act_seen, AreNarrow}
use Rattle.cl_log.specs.Reading.{act_from, acts_at}
use Rattle.cl_log.proofs.Cursors.{next_cut, first_narrow, moved, moved_reader, no_bytes, no_bytes_left, some_left, none_left}
use Rattle.cl_log.proofs.cursor.Cursor.next.Goals as goal

pub read-left-requires : goal.read-left-requires
read-left-requires c =
    let bytes = c.self.inside.rest.now in
    let before = c.self.inside.before in
    let read = act_from before (slice_index_or bytes 0 0) (take (length bytes - 1) (drop 1 bytes)) in
    let next = next_cut before bytes c.in-len1-up.len_at_least c.self.invariant.reader in
    let narrow = subst (AreNarrow c.args.into.now.room) (sym c.self.view_is) c.requires.narrow in
    record { room = first_narrow c.args.into.now.room (acts_at before bytes) (acts_behind c.self.inside.full.now c.self.inside.open) read.0 (acts_at read.0.ticket read.1) narrow next.0 }

pub invariant_of-self-else-is_empty : goal.invariant_of-self-else-is_empty
invariant_of-self-else-is_empty c =
    let bytes = c.self.inside.rest.now in
    let before = c.self.inside.before in
    let read = act_from before (slice_index_or bytes 0 0) (take (length bytes - 1) (drop 1 bytes)) in
    let next = next_cut before bytes c.in-len1-up.len_at_least c.self.invariant.reader in
    record {
      reader = moved_reader (acts_at before bytes) read (act_seen c.read-left.new.self) c.read-left.result.now c.ticket-self-inside.result next c.read-left.ensures.act c.read-left.ensures.rest c.ticket-self-inside.ensures;
      end = λ e. absurd (some_left c.read-left.result.now c.is_empty.result c.if-is_empty.false c.is_empty.ensures e);
    }

pub returns-in-empty-clause-end : goal.returns-in-empty-clause-end
returns-in-empty-clause-end c _ =
    let none = no_bytes_left c.self.inside.rest.now (omega (arith, c.in-empty.len_below)) in
    let behind = acts_behind c.self.inside.full.now c.self.inside.open in
    sym c.self.view_is
    ∙ (ap (λ bytes. acts_at c.self.inside.before bytes ++ behind) none
    ∙ (ap (λ acts. acts ++ behind) (no_bytes c.self.inside.before) ∙ c.self.invariant.end none))

pub returns-then-is_empty-clause-act : goal.returns-then-is_empty-clause-act
returns-then-is_empty-clause-act c _ =
    let bytes = c.self.inside.rest.now in
    let before = c.self.inside.before in
    let behind = acts_behind c.self.inside.full.now c.self.inside.open in
    let act = act_seen c.read-left.new.self in
    let read = act_from before (slice_index_or bytes 0 0) (take (length bytes - 1) (drop 1 bytes)) in
    let next = next_cut before bytes c.in-len1-up.len_at_least c.self.invariant.reader in
    let none = none_left c.read-left.result.now c.is_empty.result c.if-is_empty.true c.is_empty.ensures in
    sym c.self.view_is
    ∙ (moved (acts_at before bytes) behind read act c.read-left.result.now act.ticket next c.read-left.ensures.act c.read-left.ensures.rest refl
    ∙ (ap (λ left. act ∷ (acts_at act.ticket left ++ behind)) none
    ∙ (ap (λ acts. act ∷ (acts ++ behind)) (no_bytes act.ticket)
    ∙ ap (λ acts. act ∷ acts) (sym (c.self-then-is_empty.view_is ∙ c.first_of.ensures)))))

pub returns-else-is_empty-clause-act : goal.returns-else-is_empty-clause-act
returns-else-is_empty-clause-act c _ =
    let bytes = c.self.inside.rest.now in
    let before = c.self.inside.before in
    let behind = acts_behind c.self.inside.full.now c.self.inside.open in
    let read = act_from before (slice_index_or bytes 0 0) (take (length bytes - 1) (drop 1 bytes)) in
    let next = next_cut before bytes c.in-len1-up.len_at_least c.self.invariant.reader in
    sym c.self.view_is
    ∙ moved (acts_at before bytes) behind read (act_seen c.read-left.new.self) c.read-left.result.now c.ticket-self-inside.result next c.read-left.ensures.act c.read-left.ensures.rest c.ticket-self-inside.ensures
