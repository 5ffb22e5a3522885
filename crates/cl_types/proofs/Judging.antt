-- How what is noted of parts goes together.
use Rattle.std.proofs.Common.{◌≡◌, ◌∙◌, ◌<◌, ◌≤◌, ◌+◌, ap, sym, refl, ℕ, zero, suc, Bool, List, [], ◌∷◌, ◌++◌, map, drop, length, get_or, Option, Some, None, is_some, arith, add-one}
use Rattle.std.specs.Prelude.{option_map}
use Rattle.cl_ast.specs.declared.tree.TypeName.{TypeName}
use Rattle.cl_ast.specs.declared.tree.Verb.{Verb}
use Rattle.cl_ast.specs.declared.tree.Expr.{Expr}
use Rattle.cl_ast.specs.declared.tree.Place.{Place, out-Place}
use Rattle.cl_ast.specs.declared.tree.Call.{Call, out-Call}
use Rattle.cl_ast.specs.declared.tree.Operation.{Operation, out-Operation}
use Rattle.cl_ast.specs.declared.tree.Field.{Field}
use Rattle.cl_ast.specs.declared.tree.Formal.{Formal, out-Formal}
use Rattle.cl_ast.specs.declared.tree.Link.{Link, out-Link}
use Rattle.cl_types.specs.declared.journal.Journal.{Journal}
use Rattle.cl_types.specs.declared.declared.Declared.{Declared}
use Rattle.cl_types.specs.declared.context.Access.{Access}
use Rattle.cl_types.specs.declared.context.Access.TheVariants as accesses
use Rattle.cl_types.specs.declared.context.Purpose.{Purpose}
use Rattle.cl_types.specs.Notes.{Note, Site, found_all}
use Rattle.cl_types.specs.Journals.{noted, noted_all}
use Rattle.cl_types.specs.Types.{operated}
use Rattle.cl_types.specs.Declarations.{Known, look_up}
use Rattle.cl_types.specs.Expressions.{Judged, LinkJudges, place_type, place_faults, is_indexed, index_notes, called_type, call_faults, width_faults, formal_faults, notes_of, joined, all_judged, all_noted, judged_link, chained, judged, judged_place, judged_call, judged_operand, operation_notes, field_notes, formal_notes}
use Rattle.cl_types.proofs.Rules.{place_is, call_is, operation_is, formal_is, link_is}

pub noted_append : (ns ms : List Note) (j : Journal) → noted_all (ns ++ ms) j ≡ noted_all ms (noted_all ns j)
noted_append [] ms j = refl
noted_append (n ∷ ns) ms j = noted_append ns ms (noted n j)

-- ---- places

indexed : (known : Known) (o : Option Expr) → is_some o ≡ is_indexed (option_map (λ e. judged e known) o)
indexed known None = refl
indexed known (Some e) = refl

pub place_typed : (p : Place) (access : Access) (known : Known) (i : Bool) (w : Option Declared) (r : Option TypeName) → i ≡ is_some (out-Place p).index → w ≡ look_up (out-Place p).name.bytes known →
    r ≡ place_type access i w → r ≡ (judged_place p access known).type
place_typed p access known i w r hi hw hr =
    hr ∙ (ap (λ b. place_type access b w) (hi ∙ indexed known (out-Place p).index) ∙ (ap (place_type access (is_indexed (option_map (λ e. judged e known) (out-Place p).index))) hw ∙ sym (ap (λ (j : Judged). j.type) (place_is p access known))))

pub place_noted : (p : Place) (access : Access) (known : Known) (i : Bool) (w : Option Declared) (a b j : Journal) → i ≡ is_some (out-Place p).index → w ≡ look_up (out-Place p).name.bytes known →
    a ≡ noted_all (found_all (place_faults access i w) (out-Place p).name.span.start) j → b ≡ noted_all (index_notes (option_map (λ e. judged e known) (out-Place p).index)) a →
    b ≡ noted_all (judged_place p access known).notes j
place_noted p access known i w a b j hi hw ha hb =
    let index = option_map (λ e. judged e known) (out-Place p).index in
    let at = (out-Place p).name.span.start in
    let first : a ≡ noted_all (found_all (place_faults access (is_indexed index) (look_up (out-Place p).name.bytes known)) at) j =
    ha ∙ (ap (λ b. noted_all (found_all (place_faults access b w) at) j) (hi ∙ indexed known (out-Place p).index) ∙ ap (λ v. noted_all (found_all (place_faults access (is_indexed index) v) at) j) hw) in
    hb ∙ (ap (noted_all (index_notes index)) first ∙ (sym (noted_append (found_all (place_faults access (is_indexed index) (look_up (out-Place p).name.bytes known)) at) (index_notes index) j)
    ∙ sym (ap (λ (k : Judged). noted_all k.notes j) (place_is p access known))))

-- ---- calls

pub all_length : (known : Known) (xs : List Expr) → length xs ≡ length (all_judged known (map judged xs))
all_length known [] = refl
all_length known (x ∷ xs) = ap suc (all_length known xs)

pub call_typed : (c : Call) (purpose : Purpose) (known : Known) (w : Option Declared) (r : Option TypeName) → w ≡ look_up (out-Call c).name.bytes known → r ≡ called_type w → r ≡ (judged_call c purpose known).type
call_typed c purpose known w r hw hr = hr ∙ (ap called_type hw ∙ sym (ap (λ (j : Judged). j.type) (call_is c purpose known)))

pub call_noted : (c : Call) (purpose : Purpose) (known : Known) (n : ℕ) (w : Option Declared) (a b j : Journal) → n ≡ length (out-Call c).arguments → w ≡ look_up (out-Call c).name.bytes known →
    a ≡ noted_all (found_all (call_faults purpose n w) (out-Call c).name.span.start) j → b ≡ noted_all (notes_of (all_judged known (map judged (out-Call c).arguments))) a →
    b ≡ noted_all (judged_call c purpose known).notes j
call_noted c purpose known n w a b j hn hw ha hb =
    let parts = all_judged known (map judged (out-Call c).arguments) in
    let at = (out-Call c).name.span.start in
    let first : a ≡ noted_all (found_all (call_faults purpose (length parts) (look_up (out-Call c).name.bytes known)) at) j =
    ha ∙ (ap (λ m. noted_all (found_all (call_faults purpose m w) at) j) (hn ∙ all_length known (out-Call c).arguments) ∙ ap (λ v. noted_all (found_all (call_faults purpose (length parts) v) at) j) hw) in
    hb ∙ (ap (noted_all (notes_of parts)) first ∙ (sym (noted_append (found_all (call_faults purpose (length parts) (look_up (out-Call c).name.bytes known)) at) (notes_of parts) j)
    ∙ sym (ap (λ (k : Judged). noted_all k.notes j) (call_is c purpose known))))

-- ---- operations

fields_length : (verb : Verb) (known : Known) (xs : List Field) → length xs ≡ length (all_noted verb known (map field_notes xs))
fields_length verb known [] = refl
fields_length verb known (x ∷ xs) = ap suc (fields_length verb known xs)

pub operation_noted_all : (o : Operation) (known : Known) (n : ℕ) (s a b j : Journal) → s ≡ noted (Site (out-Operation o).span.start) j → n ≡ length (out-Operation o).fields →
    a ≡ noted_all (found_all (width_faults n) (out-Operation o).span.start) s → b ≡ noted_all (joined (all_noted (out-Operation o).verb known (map field_notes (out-Operation o).fields))) a →
    b ≡ noted_all (operation_notes o known) j
operation_noted_all o known n s a b j hs hn ha hb =
    let parts = all_noted (out-Operation o).verb known (map field_notes (out-Operation o).fields) in
    let at = (out-Operation o).span.start in
    let first : a ≡ noted_all (found_all (width_faults (length parts)) at) (noted (Site at) j) =
    ha ∙ (ap (λ m. noted_all (found_all (width_faults m) at) s) (hn ∙ fields_length (out-Operation o).verb known (out-Operation o).fields) ∙ ap (noted_all (found_all (width_faults (length parts)) at)) hs) in
    hb ∙ (ap (noted_all (joined parts)) first ∙ (sym (noted_append (found_all (width_faults (length parts)) at) (joined parts) (noted (Site at) j)) ∙ sym (ap (λ ns. noted_all ns j) (operation_is o known))))

pub formal_noted : (f : Formal) (verb : Verb) (known : Known) (a b j : Journal) → a ≡ noted_all (found_all (formal_faults verb) (out-Formal f).span.start) j →
    b ≡ noted_all (judged_place (out-Formal f).target accesses.Write known).notes a → b ≡ noted_all (formal_notes f verb known) j
formal_noted f verb known a b j ha hb =
    hb ∙ (ap (noted_all (judged_place (out-Formal f).target accesses.Write known).notes) ha
    ∙ (sym (noted_append (found_all (formal_faults verb) (out-Formal f).span.start) (judged_place (out-Formal f).target accesses.Write known).notes j) ∙ sym (ap (λ ns. noted_all ns j) (formal_is f verb known))))

-- ---- lists of parts

drop_next : {A : Type 0} (xs : List A) (i : ℕ) (x : A) → i < length xs → drop i xs ≡ get_or xs i x ∷ drop (suc i) xs
drop_next [] i x few = absurd (omega arith)
drop_next (y ∷ ys) zero x few = refl
drop_next (y ∷ ys) (suc i) x few = drop_next ys i x (omega arith)

pub drop_more : {A : Type 0} (xs : List A) (i : ℕ) (x : A) → i < length xs → drop i xs ≡ get_or xs i x ∷ drop (i + 1) xs
drop_more xs i x few = drop_next xs i x few ∙ ap (λ n. get_or xs i x ∷ drop n xs) (sym (add-one i))

pub at_index : {A : Type 0} (xs : List A) (i : ℕ) (x : A) → i < length xs → x ≡ get_or xs i x → drop i xs ≡ x ∷ drop (i + 1) xs
at_index xs i x few is = drop_more xs i x few ∙ ap (λ y. y ∷ drop (i + 1) xs) (sym is)

pub argument_turn : (known : Known) (xs : List Expr) (i : ℕ) (x : Expr) (j j' : Journal) → drop i xs ≡ x ∷ drop (i + 1) xs → j' ≡ noted_all (judged x known).notes j →
    noted_all (notes_of (all_judged known (map judged (drop (i + 1) xs)))) j' ≡ noted_all (notes_of (all_judged known (map judged (drop i xs)))) j
argument_turn known xs i x j j' at h =
    ap (noted_all (notes_of (all_judged known (map judged (drop (i + 1) xs))))) h
    ∙ (sym (noted_append (judged x known).notes (notes_of (all_judged known (map judged (drop (i + 1) xs)))) j) ∙ sym (ap (λ ys. noted_all (notes_of (all_judged known (map judged ys))) j) at))

pub field_turn : (verb : Verb) (known : Known) (xs : List Field) (i : ℕ) (x : Field) (j j' : Journal) → drop i xs ≡ x ∷ drop (i + 1) xs → j' ≡ noted_all (field_notes x verb known) j →
    noted_all (joined (all_noted verb known (map field_notes (drop (i + 1) xs)))) j' ≡ noted_all (joined (all_noted verb known (map field_notes (drop i xs)))) j
field_turn verb known xs i x j j' at h =
    ap (noted_all (joined (all_noted verb known (map field_notes (drop (i + 1) xs))))) h
    ∙ (sym (noted_append (field_notes x verb known) (joined (all_noted verb known (map field_notes (drop (i + 1) xs)))) j) ∙ sym (ap (λ ys. noted_all (joined (all_noted verb known (map field_notes ys))) j) at))

-- ---- chains

-- what was judged so far has this type, was noted, and goes on to the whole
pub record InChain (whole : Judged) (known : Known) (links : List Link) (i : ℕ) (found : Option TypeName) (before after : Journal) : Type 0 where
  pub so_far : Judged
  pub type_is : found ≡ so_far.type
  pub noted_is : after ≡ noted_all so_far.notes before
  pub rest : whole ≡ chained known so_far (map judged_operand (drop i links))

pub chain_turn : {whole : Judged} (known : Known) (links : List Link) (i : ℕ) (l : Link) (found t found' : Option TypeName) (before after j : Journal) → InChain whole known links i found before after →
    drop i links ≡ l ∷ drop (i + 1) links → t ≡ (judged (out-Link l).operand known).type → j ≡ noted_all (judged (out-Link l).operand known).notes after → found' ≡ operated (out-Link l).operator found t →
    InChain whole known links (i + 1) found' before j
chain_turn known links i l found t found' before after j c at ht hj hf =
    let b = judged (out-Link l).operand known in
    record {
      so_far = judged_link c.so_far (out-Link l).operator b;
      type_is = hf ∙ (ap (λ a. operated (out-Link l).operator a t) c.type_is ∙ ap (operated (out-Link l).operator c.so_far.type) ht);
      noted_is = hj ∙ (ap (noted_all b.notes) c.noted_is ∙ sym (noted_append c.so_far.notes b.notes before));
      rest = c.rest ∙ (ap (λ ys. chained known c.so_far (map judged_operand ys)) at ∙ ap (λ (k : LinkJudges). chained known (judged_link c.so_far k.operator (k.operand known)) (map judged_operand (drop (i + 1) links))) (link_is l));
    }

pub drop_end : {A : Type 0} (xs : List A) (i : ℕ) → length xs ≤ i → drop i xs ≡ []
drop_end [] zero h = refl
drop_end [] (suc i) h = refl
drop_end (x ∷ xs) zero h = absurd (omega arith)
drop_end (x ∷ xs) (suc i) h = drop_end xs i (omega arith)

pub chain_ends : {whole : Judged} (known : Known) (links : List Link) (i : ℕ) (found : Option TypeName) (before after : Journal) → (c : InChain whole known links i found before after) → length links ≤ i → whole ≡ c.so_far
chain_ends known links i found before after c past = c.rest ∙ ap (λ ys. chained known c.so_far (map judged_operand ys)) (drop_end links i past)

pub arguments_end : (known : Known) (xs : List Expr) (i : ℕ) (j : Journal) → length xs ≤ i → noted_all (notes_of (all_judged known (map judged (drop i xs)))) j ≡ j
arguments_end known xs i j past = ap (λ ys. noted_all (notes_of (all_judged known (map judged ys))) j) (drop_end xs i past)

pub fields_end : (verb : Verb) (known : Known) (xs : List Field) (i : ℕ) (j : Journal) → length xs ≤ i → noted_all (joined (all_noted verb known (map field_notes (drop i xs)))) j ≡ j
fields_end verb known xs i j past = ap (λ ys. noted_all (joined (all_noted verb known (map field_notes ys))) j) (drop_end xs i past)
