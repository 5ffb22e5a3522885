use Rattle.std.proofs.Common.{[], ◌∷◌, ◌++◌, Option, ℕ, ap, ◌∙◌, subst, refl}
use Rattle.cl_keyed.proofs.Fulls.{full-pushed, full-started}
use Rattle.cl_keyed.proofs.Rooms.{key_in-within, pushed, started}
use Rattle.cl_ground.specs.Room.{Room}
use Rattle.cl_keyed.specs.Rows.{Row}
use Rattle.cl_keyed.specs.Tables.{RoomFor, items_at}
use Rattle.cl_keyed.proofs.room.put.Goals as goal

pub push-requires-clause-place : goal.push-requires-clause-place
push-requires-clause-place c =
    let P : Option ℕ → Type 0 = λ place. RoomFor c.args.key place c.args.table.now c.args.fresh.now in
    key_in-within c.args.table.now.lines c.in-Some.line c.args.key (subst P c.in-Some.is c.requires.room).0

pub returns-in-Some-clause-content : goal.returns-in-Some-clause-content
returns-in-Some-clause-content c = λ field holds keyed.
    let P : Option ℕ → Type 0 = λ place. RoomFor c.args.key place c.args.table.now c.args.fresh.now in
    let next = c.push.ensures in
    (pushed field c.args.number c.args.key c.in-Some.line c.args.table.now.lines c.push.new.self.lines next.0 (record { number = c.args.number; tuple = c.args.tuple.items }) (subst P c.in-Some.is c.requires.room).0 next.1.0 next.1.1 refl keyed holds).0

pub returns-in-Some-clause-holds : goal.returns-in-Some-clause-holds
returns-in-Some-clause-holds c = λ field holds keyed.
    let P : Option ℕ → Type 0 = λ place. RoomFor c.args.key place c.args.table.now c.args.fresh.now in
    let next = c.push.ensures in
    (pushed field c.args.number c.args.key c.in-Some.line c.args.table.now.lines c.push.new.self.lines next.0 (record { number = c.args.number; tuple = c.args.tuple.items }) (subst P c.in-Some.is c.requires.room).0 next.1.0 next.1.1 refl keyed holds).1

pub returns-in-None-clause-content : goal.returns-in-None-clause-content
returns-in-None-clause-content c = λ field holds keyed.
    let row : Row = record { number = c.args.number; tuple = c.args.tuple.items } in
    let own = c.push-in-None.ensures.items ∙ ap (λ rows. rows ++ row ∷ []) (ap (λ (l : Room Row). l.items) c.replace-line.ensures.value ∙ c.requires.empty) in
    (started field c.args.number c.args.key c.args.table.now.lines c.push_line.new.self.lines c.push-in-None.new.self row c.push_line.ensures own refl keyed holds).0

pub returns-in-None-clause-holds : goal.returns-in-None-clause-holds
returns-in-None-clause-holds c = λ field holds keyed.
    let row : Row = record { number = c.args.number; tuple = c.args.tuple.items } in
    let own = c.push-in-None.ensures.items ∙ ap (λ rows. rows ++ row ∷ []) (ap (λ (l : Room Row). l.items) c.replace-line.ensures.value ∙ c.requires.empty) in
    (started field c.args.number c.args.key c.args.table.now.lines c.push_line.new.self.lines c.push-in-None.new.self row c.push_line.ensures own refl keyed holds).1

pub returns-in-Some-clause-full : goal.returns-in-Some-clause-full
returns-in-Some-clause-full c = λ full.
    let next = c.push.ensures in
    full-pushed c.args.table.now.lines c.push.new.self.lines c.in-Some.line next.0 (items_at c.args.table.now.lines c.in-Some.line) (record { number = c.args.number; tuple = c.args.tuple.items }) next.1.0 next.1.1 full

pub returns-in-None-clause-full : goal.returns-in-None-clause-full
returns-in-None-clause-full c = λ full.
    let row : Row = record { number = c.args.number; tuple = c.args.tuple.items } in
    let own = c.push-in-None.ensures.items ∙ ap (λ rows. rows ++ row ∷ []) (ap (λ (l : Room Row). l.items) c.replace-line.ensures.value ∙ c.requires.empty) in
    full-started c.args.table.now.lines c.push_line.new.self.lines c.args.key c.push-in-None.new.self row c.push_line.ensures own full
