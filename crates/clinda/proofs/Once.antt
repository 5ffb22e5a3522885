-- Words spell one command: the word by its row, the number and the options one by one.
use Rattle.std.proofs.Common.{◌≡◌, ◌≢◌, ℕ, ◌<◌, ◌+◌, ◌*◌, Bool, true, false, List, [], ◌∷◌, Option, Some, None, get_or, drop, length, refl, sym, ap, subst, ◌∙◌, arith}
use Rattle.std.specs.Prelude.{◌++◌, ◌==◌, codes, if◌then◌else◌}
use Rattle.std.specs.Fmt.{decimal}
use Rattle.std.proofs.lemmas.Fmt.{decimal_injective}
use Rattle.std.proofs.lemmas.List.{append_cancel_left}
use Rattle.clinda.specs.Commands.{word_of, form_of, number_words, said_words, trace_words, option_words, words_of, Fits, MayBeSaid, Spells}
use Rattle.clinda.specs.declared.words.Verb.{Verb}
use Rattle.clinda.specs.declared.words.Verb.TheVariants as verbs
use Rattle.clinda.specs.declared.words.Range.{Range}
use Rattle.clinda.specs.declared.words.Command.{Command}

-- ---- the word

-- a word by its first two bytes
key : List ℕ → ℕ
key (x ∷ y ∷ rest) = 256 * x + y
key _ = 0

verb_at : ℕ → Verb
verb_at k = if k == 29541 then verbs.Seq else verbs.Print

known : (v : Verb) → verb_at (key (word_of v)) ≡ v
unfolding key verb_at
known verbs.Seq = refl
known verbs.Print = refl

pub same_verb : (v w : Verb) → word_of v ≡ word_of w → v ≡ w
same_verb v w e = sym (known v) ∙ ap (λ (word : List ℕ). verb_at (key word)) e ∙ known w

-- ---- the number

abbrev Words : Type 0
Words = List (List ℕ)

abbrev IsBelow : Option Range → Type 0
IsBelow None = Unit {0}
IsBelow (Some range) = range.most < 18446744073709551616

bounded : (v : Verb) → IsBelow (form_of v).number
bounded verbs.Seq = omega (arith)
bounded verbs.Print = tt

some_once : (m n : ℕ) → m < 18446744073709551616 → n < 18446744073709551616 → decimal m ≡ decimal n → Some m ≡ Some n
some_once m n p q e = ap (λ k. Some k) (decimal_injective m n p q e)

numbers_once : (range : Option Range) (m n : Option ℕ) (xs ys : Words) → IsBelow range → Fits range m → Fits range n → number_words m ++ xs ≡ number_words n ++ ys → (m ≡ n) × (xs ≡ ys)
numbers_once None None None xs ys b p q e = (refl, e)
numbers_once (Some range) (Some m) (Some n) xs ys b p q e =
    (some_once m n (omega (arith, b, p.1)) (omega (arith, b, q.1)) (ap (λ (ws : Words). get_or ws 0 []) e), ap (λ (ws : Words). drop 1 ws) e)
numbers_once None None (Some n) xs ys b p q e = absurd q
numbers_once None (Some m) n xs ys b p q e = absurd p
numbers_once (Some range) None n xs ys b p q e = absurd p
numbers_once (Some range) (Some m) None xs ys b p q e = absurd q

-- ---- the options

-- no word of an option stands at the front
abbrev IsFree : List ℕ → Words → Type 0
IsFree name words = (n : ℕ) (others : Words) → words ≢ (name ++ decimal n) ∷ others

-- an option says a small number
abbrev IsSmall : Option ℕ → Type 0
IsSmall None = Unit {0}
IsSmall (Some n) = n < 18446744073709551616

small : (may : Bool) (least most : ℕ) (o : Option ℕ) → most < 18446744073709551616 → MayBeSaid may least most o → IsSmall o
small may least most None b p = tt
small false least most (Some n) b p = absurd p
small true least most (Some n) b p = omega (arith, b, p.1)

said_once : (name : List ℕ) (s t : Option ℕ) (xs ys : Words) → IsSmall s → IsSmall t → IsFree name xs → IsFree name ys → said_words name s ++ xs ≡ said_words name t ++ ys → (s ≡ t) × (xs ≡ ys)
said_once name None None xs ys p q a b e = (refl, e)
said_once name (Some m) (Some n) xs ys p q a b e =
    (some_once m n p q (append_cancel_left name (decimal m) (decimal n) (ap (λ (ws : Words). get_or ws 0 []) e)), ap (λ (ws : Words). drop 1 ws) e)
said_once name None (Some n) xs ys p q a b e = absurd (a n ys e)
said_once name (Some m) None xs ys p q a b e = absurd (b m xs (sym e))

no_steps : (o : Option ℕ) (t : Bool) → IsFree (codes "steps=") (said_words (codes "entries=") o ++ trace_words t)
no_steps None false n others e = absurd (omega (arith, ap length e))
no_steps None true n others e = absurd (omega (arith, ap (λ (ws : Words). get_or (get_or ws 0 []) 0 0) e))
no_steps (Some m) t n others e = absurd (omega (arith, ap (λ (ws : Words). get_or (get_or ws 0 []) 0 0) e))

no_entries : (t : Bool) → IsFree (codes "entries=") (trace_words t)
no_entries false n others e = absurd (omega (arith, ap length e))
no_entries true n others e = absurd (omega (arith, ap (λ (ws : Words). get_or (get_or ws 0 []) 0 0) e))

trace_once : (s t : Bool) → trace_words s ≡ trace_words t → s ≡ t
trace_once false false e = refl
trace_once true true e = refl
trace_once false true e = absurd (omega (arith, ap length e))
trace_once true false e = absurd (omega (arith, ap length e))

same_command : (c d : Command) → c.verb ≡ d.verb → c.number ≡ d.number → c.steps ≡ d.steps → c.entries ≡ d.entries → c.trace ≡ d.trace → c ≡ d
same_command c d v n s e t =
    ap (λ (x : Verb). record { verb = x; number = c.number; steps = c.steps; entries = c.entries; trace = c.trace }) v
    ∙ ap (λ (x : Option ℕ). record { verb = d.verb; number = x; steps = c.steps; entries = c.entries; trace = c.trace }) n
    ∙ ap (λ (x : Option ℕ). record { verb = d.verb; number = d.number; steps = x; entries = c.entries; trace = c.trace }) s
    ∙ ap (λ (x : Option ℕ). record { verb = d.verb; number = d.number; steps = d.steps; entries = x; trace = c.trace }) e
    ∙ ap (λ (x : Bool). record { verb = d.verb; number = d.number; steps = d.steps; entries = d.entries; trace = x }) t

pub spells_once : (words : List (List ℕ)) (c d : Command) → Spells words c → Spells words d → c ≡ d
spells_once words c d p q =
    let same : words_of c ≡ words_of d = sym p.spelled ∙ q.spelled in
    let verb = same_verb c.verb d.verb (ap (λ (ws : Words). get_or ws 0 []) same) in
    let fits : Fits (form_of c.verb).number d.number = subst (λ (v : Verb). Fits (form_of v).number d.number) (sym verb) q.range.number in
    let numbers = numbers_once (form_of c.verb).number c.number d.number (option_words c) (option_words d) (bounded c.verb) p.range.number fits (ap (λ (ws : Words). drop 1 ws) same) in
    let steps = said_once (codes "steps=") c.steps d.steps _ _ (small (form_of c.verb).steps 0 1099511627776 c.steps (omega (arith)) p.range.steps) (small (form_of d.verb).steps 0 1099511627776 d.steps (omega (arith)) q.range.steps) (no_steps c.entries c.trace) (no_steps d.entries d.trace) numbers.1 in
    let entries = said_once (codes "entries=") c.entries d.entries _ _ (small (form_of c.verb).entries 1 16777216 c.entries (omega (arith)) p.range.entries) (small (form_of d.verb).entries 1 16777216 d.entries (omega (arith)) q.range.entries) (no_entries c.trace) (no_entries d.trace) steps.1 in
    same_command c d verb numbers.0 steps.0 entries.0 (trace_once c.trace d.trace entries.1)
