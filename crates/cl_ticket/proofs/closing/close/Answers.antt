use Rattle.std.proofs.Common.{arith, ap, map, length, ◌∙◌, ◌≡◌, ◌-◌, List, subst, refl}
use Rattle.std.proofs.lemmas.List.{length-map}
use Rattle.std.specs.Slots.{slots_items}
use Rattle.cl_ticket.specs.Participants.{Participant}
use Rattle.cl_ticket.specs.Steps.{end_view, root_sets}
use Rattle.cl_ticket.specs.Tokens.{SetToken, participants_of}
use Rattle.cl_ticket.proofs.Closes.{closed_as, closed-marks}
use Rattle.cl_ticket.proofs.CloseLaws.{told-tickets, told-names, told-acts, told-owners, told-made, told-numbers, told-starts, told-full, told-halter, numbers-of}
use Rattle.cl_ticket.proofs.closing.close.Goals as goal

pub free-requires : goal.free-requires
free-requires g c = λ k lt. let n = c.close_with-table.ensures.counts.1 in let z = c.args.tickets.slots in absurd (omega arith)

pub returns : goal.returns
returns g c =
    let main = c.args.main in
    let people = participants_of main in
    let sets = map (λ s. s.history) c.args.sets.items in
    let m = length g.K.Plan.shapes in
    let seat = c.take_all.new.main in
    let words = slots_items c.close_with-table.result.words in
    let slots = slots_items c.close_with-table.result.slots in
    let same : c.main.inside.seat.me.0.participants ≡ people = ap (λ v. v.participants) c.main.invariant.view ∙ ap participants_of c.main.view_is in
    let view : seat.me.0 ≡ end_view people sets = ap (λ w. w.0) c.take_all.ensures.view ∙ ap (λ (ps : List Participant). end_view ps sets) same in
    let root = subst (λ (ps : List Participant). root_sets ps m ≡ m) same c.main.invariant.root in
    let final = c.close_with-table.ensures.values.2 in
    let all = closed_as words slots seat.id m c.words_of-closed.result.next c.words_of-closed.result.halt seat.me.0 people sets final c.words_of-closed.ensures.next c.words_of-closed.ensures.halt view refl c.requires.main root (length-map c.args.sets.items (λ (s : SetToken). s.history) ∙ c.requires.sets) c.requires.gathered in
    let n = c.words_of-closed.result.next - 1 in
    let r = all.0.1 in
    let some = all.0.0 in
    let tickets = told-tickets n people sets r in
    let count = tickets.1 in
    let marks = closed-marks words slots seat.id seat.me.0 people sets final view in
    record {
      tickets = tickets.0;
      next = omega arith;
      numbers = numbers-of c.args.sets.items m (told-numbers n m main.participant main.gathered sets r all.3);
      root = all.3;
      names = told-names n people sets r;
      made = told-made n m main.participant main.gathered sets r all.3;
      acts = told-acts n people sets r;
      owners = told-owners n people sets r;
      starts = told-starts n m main.participant main.gathered sets r all.3;
      full = told-full marks.0 people sets marks.1 all.2;
      halt = all.1.0;
      halter = told-halter c.words_of-closed.result.halt people sets all.1.1;
      ruled = r;
    }
