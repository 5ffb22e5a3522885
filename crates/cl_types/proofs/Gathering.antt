-- How what is found in parts goes together.
use Rattle.std.proofs.Common.{◌≡◌, ◌∙◌, ◌<◌, ◌≤◌, ◌+◌, ap, sym, refl, ℕ, List, [], ◌∷◌, ◌++◌, drop, length, get_or, append_assoc}
use Rattle.std.proofs.lemmas.List.{append-nil}
use Rattle.cl_ast.specs.declared.tree.Field.{Field}
use Rattle.cl_ast.specs.declared.tree.Operation.{Operation, out-Operation}
use Rattle.cl_ast.specs.declared.tree.Chain.{Chain, out-Chain}
use Rattle.cl_ast.specs.declared.tree.Link.{Link, out-Link}
use Rattle.cl_types.specs.declared.fields.form.FieldForm.{FieldForm}
use Rattle.cl_types.specs.declared.fields.site.Site.{Site}
use Rattle.cl_types.specs.Declarations.{Known}
use Rattle.cl_types.specs.Findings.{Finding, Forms, Told, seen, seen_site, tell, tell_own, told, adds}
use Rattle.cl_types.specs.Fields.{field_form, own_forms, Finds, expr_forms, operation_forms, inner_forms, chain_forms, link_forms}
use Rattle.cl_types.specs.Gathered.{each}
use Rattle.cl_types.proofs.Judging.{at_index, drop_end}
use Rattle.cl_types.proofs.Finding.{operation_is, chain_is, link_is}

told_append : (x y : Forms) → told (x ++ y) ≡ told x ++ told y
told_append [] y = refl
told_append (f ∷ x) y = ap (λ z. (f.0, tell_own f.1) ∷ z) (told_append x y)

pub adds_append : (a : Told) (x y : Forms) → adds (adds a x) y ≡ adds a (x ++ y)
adds_append a x y = append_assoc a (told x) (told y) ∙ sym (ap (λ z. a ++ z) (told_append x y))

pub adds_nil : (a : Told) → adds a [] ≡ a
adds_nil a = append-nil a

-- one part behind another
pub two_found : (a : Told) (x y : Forms) (b c : Told) → b ≡ adds a x → c ≡ adds b y → c ≡ adds a (x ++ y)
two_found a x y b c hb hc = hc ∙ (ap (λ z. adds z y) hb ∙ adds_append a x y)

-- the same, told otherwise
pub otherwise : (a : Told) (x y : Forms) (b : Told) → y ≡ x → b ≡ adds a x → b ≡ adds a y
otherwise a x y b h hb = hb ∙ sym (ap (adds a) h)

pub nothing_found : (a : Told) → a ≡ adds a []
nothing_found a = sym (adds_nil a)

-- ---- lists of parts

-- what is left to find leads to the same
abbrev pub Gathers : {A : Type 0} → (A → Finds) → List A → ℕ → Known → Told → Told → Type 0
Gathers f xs i known before now = adds now (each f (drop i xs) known) ≡ adds before (each f xs known)

pub gathers_on : {A : Type 0} (f : A → Finds) (xs : List A) (i : ℕ) (x : A) (known : Known) (before now next : Told) → Gathers f xs i known before now → i < length xs → x ≡ get_or xs i x → next ≡ adds now (f x known) →
    Gathers f xs (i + 1) known before next
gathers_on f xs i x known before now next leads few is h =
    ap (λ z. adds z (each f (drop (i + 1) xs) known)) h
    ∙ (adds_append now (f x known) (each f (drop (i + 1) xs) known) ∙ (sym (ap (λ ys. adds now (each f ys known)) (at_index xs i x few is)) ∙ leads))

pub gathers_to : {A : Type 0} (f : A → Finds) (xs : List A) (i : ℕ) (known : Known) (before now : Told) → Gathers f xs i known before now → length xs ≤ i → now ≡ adds before (each f xs known)
gathers_to f xs i known before now leads past = sym (ap (λ ys. adds now (each f ys known)) (drop_end xs i past) ∙ adds_nil now) ∙ leads

-- ---- the fields of one operation

pub own_turn : (xs : List Field) (i : ℕ) (x : Field) (known : Known) (ts ts' : List FieldForm) (t : FieldForm) → drop i xs ≡ x ∷ drop (i + 1) xs → t ≡ tell (field_form x known) → ts' ≡ ts ++ t ∷ [] →
    ts' ++ tell_own (own_forms (drop (i + 1) xs) known) ≡ ts ++ tell_own (own_forms (drop i xs) known)
own_turn xs i x known ts ts' t at is more =
    let rest = tell_own (own_forms (drop (i + 1) xs) known) in
    ap (λ ys. ys ++ rest) more ∙ (append_assoc ts (t ∷ []) rest ∙ (ap (λ y. ts ++ (y ∷ rest)) is ∙ sym (ap (λ ys. ts ++ tell_own (own_forms ys known)) at)))

pub own_end : (xs : List Field) (i : ℕ) (known : Known) (ts : List FieldForm) → length xs ≤ i → ts ≡ ts ++ tell_own (own_forms (drop i xs) known)
own_end xs i known ts past = sym (ap (λ ys. ts ++ tell_own (own_forms ys known)) (drop_end xs i past) ∙ append-nil ts)

-- ---- operations and chains

seen_append : (xs ys : List Site) → seen (xs ++ ys) ≡ seen xs ++ seen ys
seen_append [] ys = refl
seen_append (x ∷ xs) ys = ap (λ zs. seen_site x ∷ zs) (seen_append xs ys)

-- one more that is kept
pub pushed : (xs ys : List Site) (s : Site) → ys ≡ xs ++ s ∷ [] → seen ys ≡ seen xs ++ seen_site s ∷ []
pushed xs ys s h = ap seen h ∙ seen_append xs (s ∷ [])

pub operation_ends : (o : Operation) (known : Known) (own : List FieldForm) (before a b : Told) → own ≡ tell_own (own_forms (out-Operation o).fields known) → a ≡ before ++ (o, own) ∷ [] →
    b ≡ adds a (each inner_forms (out-Operation o).fields known) → b ≡ adds before (operation_forms o known)
operation_ends o known own before a b ho ha hb =
    let mine : Operation × List Finding = (o, own_forms (out-Operation o).fields known) in
    let inner = each inner_forms (out-Operation o).fields known in
    otherwise before (mine ∷ inner) (operation_forms o known) b (operation_is o known) (two_found before (mine ∷ []) inner a b (ha ∙ ap (λ x. before ++ (o, x) ∷ []) ho) hb)

pub chain_begins : (h : Chain) (links : List Link) (known : Known) (before a : Told) → links ≡ (out-Chain h).others → a ≡ adds before (expr_forms (out-Chain h).first known) →
    adds a (each link_forms links known) ≡ adds before (chain_forms h known)
chain_begins h links known before a hl ha =
    let first = expr_forms (out-Chain h).first known in
    ap (λ z. adds z (each link_forms links known)) ha
    ∙ (adds_append before first (each link_forms links known) ∙ (ap (λ ls. adds before (first ++ each link_forms ls known)) hl ∙ sym (ap (adds before) (chain_is h known))))

pub links_on : (links : List Link) (i : ℕ) (k : Link) (known : Known) (now next all : Told) → adds now (each link_forms (drop i links) known) ≡ all → i < length links → k ≡ get_or links i k →
    next ≡ adds now (expr_forms (out-Link k).operand known) → adds next (each link_forms (drop (i + 1) links) known) ≡ all
links_on links i k known now next all leads few is h =
    ap (λ z. adds z (each link_forms (drop (i + 1) links) known)) (otherwise now (expr_forms (out-Link k).operand known) (link_forms k known) next (link_is k known) h)
    ∙ (adds_append now (link_forms k known) (each link_forms (drop (i + 1) links) known) ∙ (sym (ap (λ ys. adds now (each link_forms ys known)) (at_index links i k few is)) ∙ leads))

pub links_end : (links : List Link) (i : ℕ) (known : Known) (now all : Told) → adds now (each link_forms (drop i links) known) ≡ all → length links ≤ i → now ≡ all
links_end links i known now all leads past = sym (ap (λ ys. adds now (each link_forms ys known)) (drop_end links i past) ∙ adds_nil now) ∙ leads
