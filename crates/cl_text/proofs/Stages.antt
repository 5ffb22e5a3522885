-- Pieces of a text one after another.
use Rattle.std.proofs.Common.{◌≡◌, ◌≤◌, ℕ, Bool, true, false, List, [], ◌∷◌, ◌++◌, refl, sym, ◌∙◌, ap, append_assoc, append-nil, arith, take, drop, take-append-drop, subst, get_or, length, ◌+◌, ◌<◌}
use Rattle.std.proofs.lemmas.List.{at_drop_more}
use Rattle.std.specs.Prelude.{Option, Some, None, IfSome}
use Rattle.cl_outside.specs.Faults.{Rose}
use Rattle.cl_outside.specs.Streams.{Appends}
use Rattle.cl_text.specs.Stages.{Stage, Sends, Goes, Puts, Wrote, Broke}

sends_then : (s t : List ℕ) (w0 w1 w2 : Option (List ℕ)) (p0 p1 rest : List ℕ) → Sends w0 p0 s w1 p1 → Sends w1 p1 t w2 rest → Sends w0 p0 (s ++ t) w2 rest
sends_then s t None w1 w2 p0 p1 rest first next = tt
sends_then s t (Some old) None w2 p0 p1 rest first next = absurd (cc first.1)
sends_then s t (Some old) (Some mid) w2 p0 p1 rest first next =
    let a = first.0 in
    let b = next.0 in
    let e : mid ≡ old ++ a = cc first.1 in
    (a ++ b, next.1 ∙ ap (λ m. Some (m ++ b)) e ∙ ap Some (append_assoc old a b), append_assoc a b rest ∙ ap (λ m. a ++ m) next.2 ∙ sym (append_assoc a p1 t) ∙ ap (λ m. m ++ t) first.2 ∙ append_assoc p0 s t)

sends_front : (s t : List ℕ) (w0 w1 : Option (List ℕ)) (p0 rest : List ℕ) → Sends w0 p0 s w1 rest → Sends w0 p0 (s ++ t) w1 (rest ++ t)
sends_front s t None w1 p0 rest first = tt
sends_front s t (Some old) w1 p0 rest first =
    let a = first.0 in
    (a, first.1, sym (append_assoc a rest t) ∙ ap (λ m. m ++ t) first.2 ∙ append_assoc p0 s t)

sends_on : (w : Option (List ℕ)) (p text : List ℕ) → Sends w p text w (p ++ text)
sends_on None p text = tt
sends_on (Some old) p text = ([], ap Some (sym (append-nil old)), refl)

same_after : (s : List ℕ) (w0 w1 w2 : Option (List ℕ)) (p0 rest : List ℕ) → w2 ≡ w1 → Sends w0 p0 s w1 rest → Sends w0 p0 s w2 rest
same_after s w0 w1 w2 p0 rest e h = let P : Option (List ℕ) → Type 0 = λ w. Sends w0 p0 s w rest in subst P (sym e) h

goes_then : (s t : List ℕ) (a b c : Stage) (x y z : Bool) → Goes s a b x y → Goes t b c y z → Goes (s ++ t) a c x z
goes_then s t a b c false false false first next =
    (next.0 ∙ first.0, sends_then s t a.written b.written c.written a.pending b.pending c.pending first.1 next.1)
goes_then s t a b c false false true first next =
    (omega (arith, first.0, next.0), rw (← first.0) next.1, (next.2.0, sends_then s t a.written b.written c.written a.pending b.pending next.2.0 first.1 next.2.1))
goes_then s t a b c false true true first next =
    (omega (arith, first.0, next.1), rw next.1 first.1, (first.2.0 ++ t, same_after (s ++ t) a.written b.written c.written a.pending (first.2.0 ++ t) next.0 (sends_front s t a.written b.written a.pending first.2.0 first.2.1)))
goes_then s t a b c true true true first next = (next.0 ∙ first.0, next.1 ∙ first.1)
goes_then s t a b c false true false first next = absurd next
goes_then s t a b c true true false first next = absurd next
goes_then s t a b c true false z first next = absurd first

-- a text behind another
pub then : (s t : List ℕ) (a b c : Stage) → Puts s a b → Puts t b c → Puts (s ++ t) a c
then s t a b c first next = record { goes = goes_then s t a b c a.failed b.failed c.failed first.goes next.goes }

goes_nowhere : (a : Stage) (x : Bool) → Goes [] a a x x
goes_nowhere a false = (refl, let P : List ℕ → Type 0 = λ rest. Sends a.written a.pending [] a.written rest in subst P (append-nil a.pending) (sends_on a.written a.pending []))
goes_nowhere a true = (refl, refl)

-- no text
pub nothing : (a : Stage) → Puts [] a a
nothing a = record { goes = goes_nowhere a a.failed }

-- a text that equals another
pub alike : (s t : List ℕ) (a b : Stage) → s ≡ t → Puts s a b → Puts t a b
alike s t a b e h = let P : List ℕ → Type 0 = λ text. Puts text a b in subst P e h

-- no write failed
pub fine : (text : List ℕ) (a b : Stage) → a.failed ≡ false → b.failed ≡ false → b.faults ≡ a.faults → Sends a.written a.pending text b.written b.pending → Puts text a b
fine text a b x y faults sends = record { goes = rw (x, y) (faults, sends) }

-- a write failed
pub broken : (text rest : List ℕ) (a b : Stage) → a.failed ≡ false → b.failed ≡ true → a.faults ≤ b.faults → Rose a.faults b.faults → Sends a.written a.pending text b.written rest → Puts text a b
broken text rest a b x y later rose sends = record { goes = rw (x, y) (later, rose, (rest, sends)) }

-- a write had failed
pub over : (text : List ℕ) (a : Stage) → a.failed ≡ true → Puts text a a
over text a x = record { goes = rw x (refl, refl) }

-- the text is held back
pub held : (text : List ℕ) (w : Option (List ℕ)) (p : List ℕ) → Sends w p text w (p ++ text)
held text w p = sends_on w p text

-- all was sent
pub sent_all : (text : List ℕ) (w0 w1 : Option (List ℕ)) (p all : List ℕ) → all ≡ p ++ text → Appends w0 all w1 → Sends w0 p text w1 []
sent_all text None w1 p all e h = tt
sent_all text (Some old) w1 p all e h = (all, h, append-nil all ∙ e)

-- a front was sent
pub sent_front : (n : ℕ) (text : List ℕ) (w0 w1 : Option (List ℕ)) (p all : List ℕ) → all ≡ p ++ text → Appends w0 (take n all) w1 → Sends w0 p text w1 (drop n all)
sent_front n text None w1 p all e h = tt
sent_front n text (Some old) w1 p all e h = (take n all, h, take-append-drop n all ∙ e)

-- a part of a text was put, and this rest of it is left
pub record Reached (whole rest : List ℕ) (a b : Stage) : Type 0 where
  pub done : List ℕ
  pub puts : Puts done a b
  pub joins : done ++ rest ≡ whole

-- nothing was put so far
pub at_first : (whole : List ℕ) (a : Stage) → Reached whole whole a a
at_first whole a = record { done = []; puts = nothing a; joins = refl }

-- a piece more
pub more : (whole piece rest left : List ℕ) (a b c : Stage) → left ≡ piece ++ rest → Reached whole left a b → Puts piece b c → Reached whole rest a c
more whole piece rest left a b c e so_far puts =
    record {
      done = so_far.done ++ piece;
      puts = then so_far.done piece a b c so_far.puts puts;
      joins = append_assoc so_far.done piece rest ∙ ap (λ m. so_far.done ++ m) (sym e) ∙ so_far.joins;
    }

-- all of it
pub at_last : (whole rest : List ℕ) (a b : Stage) → rest ≡ [] → Reached whole rest a b → Puts whole a b
at_last whole rest a b e so_far =
    alike so_far.done whole a b (sym (append-nil so_far.done) ∙ ap (λ m. so_far.done ++ m) (sym e) ∙ so_far.joins) so_far.puts

-- the next of a list
pub next_of : {A B : Type 0} (f : List A → B) (xs : List A) (i : ℕ) (x : A) → x ≡ get_or xs i x → i < length xs → f (drop i xs) ≡ f (x ∷ drop (i + 1) xs)
next_of f xs i x e lt = at_drop_more f xs i x lt ∙ ap (λ y. f (y ∷ drop (i + 1) xs)) (sym e)

-- the next of a list whose text is joined piece by piece
pub item : {A : Type 0} (f : List A → List ℕ) (piece : A → List ℕ) (xs : List A) (i : ℕ) (d : A) (a b c : Stage) → ((x : A) (more : List A) → f (x ∷ more) ≡ piece x ++ f more) → i < length xs → Reached (f xs) (f (drop i xs)) a b → Puts (piece (get_or xs i d)) b c → Reached (f xs) (f (drop (i + 1) xs)) a c
item f piece xs i d a b c joins lt so_far puts =
    more (f xs) (piece (get_or xs i d)) (f (drop (i + 1) xs)) (f (drop i xs)) a b c (at_drop_more f xs i d lt ∙ joins (get_or xs i d) (drop (i + 1) xs)) so_far puts

wrote : (text : List ℕ) (a b : Stage) (x y : Bool) → x ≡ false → y ≡ false → a.pending ≡ [] → b.pending ≡ [] → Goes text a b x y → Wrote text a.written b.written a.faults b.faults
wrote text a b true y e f p q goes = absurd (cc e)
wrote text a b false true e f p q goes = absurd (cc f)
wrote text a b false false e f p q goes =
    record { all = wrote_all a.written b.written goes.1; kept = goes.0 }
  where
    wrote_all : (w0 w1 : Option (List ℕ)) → Sends w0 a.pending text w1 b.pending → IfSome w0 (λ bytes. w1 ≡ Some (bytes ++ text))
    wrote_all None w1 sends = tt
    wrote_all (Some old) w1 sends =
        sends.1 ∙ ap (λ m. Some (old ++ m)) (sym (append-nil sends.0) ∙ ap (λ m. sends.0 ++ m) (sym q) ∙ sends.2 ∙ ap (λ m. m ++ text) p)

-- all was put, and nothing is held back
pub finished : (text : List ℕ) (a b : Stage) → a.failed ≡ false → b.failed ≡ false → a.pending ≡ [] → b.pending ≡ [] → Puts text a b → Wrote text a.written b.written a.faults b.faults
finished text a b e f p q puts = wrote text a b a.failed b.failed e f p q puts.goes

broke : (text : List ℕ) (a b : Stage) (x y : Bool) → x ≡ false → y ≡ true → a.pending ≡ [] → Goes text a b x y → Broke text a.written b.written a.faults b.faults
broke text a b true y e f p goes = absurd (cc e)
broke text a b false false e f p goes = absurd (cc f)
broke text a b false true e f p goes =
    record { front = broke_at a.written b.written goes.2.0 goes.2.1; later = goes.0; rose = goes.1 }
  where
    broke_at : (w0 w1 : Option (List ℕ)) (rest : List ℕ) → Sends w0 a.pending text w1 rest → IfSome w0 (λ bytes. (sent : List ℕ) × (rest : List ℕ) × (w1 ≡ Some (bytes ++ sent)) × (sent ++ rest ≡ text))
    broke_at None w1 rest sends = tt
    broke_at (Some old) w1 rest sends = (sends.0, rest, sends.1, sends.2 ∙ ap (λ m. m ++ text) p)

-- a write failed on the way
pub stopped : (text : List ℕ) (a b : Stage) → a.failed ≡ false → b.failed ≡ true → a.pending ≡ [] → Puts text a b → Broke text a.written b.written a.faults b.faults
stopped text a b e f p puts = broke text a b a.failed b.failed e f p puts.goes
