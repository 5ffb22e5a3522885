-- Where a program keeps the rules, an instruction's successors are addresses of its function with the heights that result.
use Rattle.std.proofs.Common.{◌≡◌, ℕ, zero, suc, ◌-◌, ◌<◌, ◌≤◌, Bool, true, false, List, [], ◌∷◌, length, Option, Some, None, refl, sym, ap, ◌∙◌, subst, arith, ltb-true, leb-true, eqb-true, lt-ltb, le-ltb, eq-eqb}
use Rattle.std.specs.Prelude.{◌&&◌, ◌||◌, not, nat_lt, nat_le, ◌==◌, slice_get, if◌then◌else◌}
use Rattle.std.specs.List.{list_all}
use Rattle.std.proofs.lemmas.Bool.{eqb-false, not-true, or_parts}
use Rattle.std.proofs.lemmas.Option.{slice_get_within, same_Some}
use Rattle.cl_sig.specs.Fields.{all_below}
use Rattle.cl_code.specs.Plain.{PlainFunction, PlainProgram}
use Rattle.cl_code.specs.Reach.{begun_by, same_function, function_at, is_last, pops, height_behind, successors}
use Rattle.cl_code.specs.Rules.{has, is_after, entry_rises, function_is_right, may_jump, instruction_reaches, at_address, succeeds_with, height_is_right, may_end, returns_one, frame_size, rule_1, rule_2, rule_3, rule_4, rule_5, rule_6, rule_7, rule_8, keeps_rules}
use Rattle.cl_code.specs.declared.instr.Instr.{Instr}
use Rattle.cl_code.specs.declared.instr.Instr.TheVariants.{Jump, JumpZero, Return}
use Rattle.cl_code.proofs.Fine.{below, is_fine}
use Rattle.cl_code.proofs.Keeping.{Aims}
use Rattle.cl_code.proofs.Effects.{JumpsBy}
use Rattle.cl_code.proofs.Tests.{left, right, other, has_of}

-- ---- what is there

pub some_of : {A : Type 0} (xs : List A) (k : ℕ) → k < length xs → (x : A) × (slice_get xs k ≡ Some x)
some_of [] k lt = absurd (omega (arith, lt))
some_of (x ∷ xs) zero lt = (x, refl)
some_of (x ∷ xs) (suc k) lt = some_of xs k (omega (arith, lt))

has_height : (o : Option ℕ) (height : ℕ) → has (λ h. h == height) o ≡ true → o ≡ Some height
has_height None height h = absurd cc
has_height (Some n) height h = ap Some (eqb-true n height h)

-- ---- entries

Rises : List PlainFunction → Type 0
Rises fs = (j : ℕ) (f g : PlainFunction) → slice_get fs j ≡ Some f → slice_get fs (suc j) ≡ Some g → f.entry < g.entry

first_is_least : (f : PlainFunction) (fs : List PlainFunction) → Rises (f ∷ fs) → (k : ℕ) (g : PlainFunction) → slice_get fs k ≡ Some g → f.entry < g.entry
unfolding Rises
first_is_least f [] rises k g is = absurd (omega (arith, slice_get_within [] k g is))
first_is_least f (f' ∷ fs) rises zero g is = rises 0 f g refl is
first_is_least f (f' ∷ fs) rises (suc k) g is =
    let first = rises 0 f f' refl refl in
    let rest = first_is_least f' fs (λ j x y hx hy. rises (suc j) x y hx hy) k g is in
    omega (arith, first, rest)

none_begun : (f : PlainFunction) (fs : List PlainFunction) → Rises (f ∷ fs) → begun_by fs f.entry ≡ 0
unfolding Rises
none_begun f [] rises = refl
none_begun f (g ∷ fs) rises = ap (λ t. if t then 0 else suc (begun_by fs f.entry)) (lt-ltb f.entry g.entry (rises 0 f g refl refl))

begun_at : (fs : List PlainFunction) → Rises fs → (k : ℕ) (g : PlainFunction) → slice_get fs k ≡ Some g → begun_by fs g.entry ≡ suc k
unfolding Rises
begun_at [] rises k g is = absurd (omega (arith, slice_get_within [] k g is))
begun_at (f ∷ fs) rises zero g is =
    ap (λ e. begun_by (f ∷ fs) e) (ap (λ (x : PlainFunction). x.entry) (sym (same_Some f g is)))
    ∙ ap (λ t. if t then 0 else suc (begun_by fs f.entry)) (le-ltb f.entry f.entry (omega arith))
    ∙ ap suc (none_begun f fs rises)
begun_at (f ∷ fs) rises (suc k) g is =
    let less = first_is_least f fs rises k g is in
    ap (λ t. if t then 0 else suc (begun_by fs g.entry)) (le-ltb g.entry f.entry (omega (arith, less)))
    ∙ ap suc (begun_at fs (λ j x y hx hy. rises (suc j) x y hx hy) k g is)

-- ---- an address

-- an address of this function, before whose instruction so many numbers stand on the stack
pub record At (p : PlainProgram) (f : PlainFunction) (a height : ℕ) : Type 0 where
  pub within : a < length p.code
  pub height_is : slice_get p.heights a ≡ Some height
  pub owner : function_at p a ≡ Some f

-- such an address, which has a tick where it isn't behind `a`, and a height that the function admits
abbrev pub Leaps : PlainProgram → PlainFunction → ℕ → ℕ → ℕ → Type 0
Leaps p f a height to = At p f to height × Aims p.code a to × (height ≤ f.stack)

pub at_height : (p : PlainProgram) (f : PlainFunction) (a h k : ℕ) → h ≡ k → At p f a h → At p f a k
at_height p f a h k e at = subst (At p f a) e at

next_passes : (i : Instr) (a : ℕ) (test : ℕ → Bool) → may_end i ≡ false → list_all test (successors i a) ≡ true → test (suc a) ≡ true
next_passes (Jump to) a test e h = absurd cc
next_passes Return a test e h = absurd cc
next_passes i a test e h = left _ _ h

module _ (p : PlainProgram) (rules : keeps_rules p ≡ true) where
  behind_2 : all_below (length p.functions) (rule_2 p) && (all_below (length p.sites) (rule_3 p) && (all_below (length p.formats) (rule_4 p) && (rule_5 p && (all_below (length p.code) (rule_6 p) && (all_below (length p.code) (rule_7 p) && all_below (length p.code) (rule_8 p)))))) ≡ true
  behind_2 = right (rule_1 p) _ rules

  behind_4 : all_below (length p.formats) (rule_4 p) && (rule_5 p && (all_below (length p.code) (rule_6 p) && (all_below (length p.code) (rule_7 p) && all_below (length p.code) (rule_8 p)))) ≡ true
  behind_4 = right (all_below (length p.sites) (rule_3 p)) _ (right (all_below (length p.functions) (rule_2 p)) _ behind_2)

  behind_6 : all_below (length p.code) (rule_6 p) && (all_below (length p.code) (rule_7 p) && all_below (length p.code) (rule_8 p)) ≡ true
  behind_6 = right (rule_5 p) _ (right (all_below (length p.formats) (rule_4 p)) _ behind_4)

  pub rule_2_at : (k : ℕ) → k < length p.functions → rule_2 p k ≡ true
  rule_2_at k lt = below (length p.functions) (rule_2 p) (left _ _ behind_2) k lt

  pub rule_3_at : (k : ℕ) → k < length p.sites → rule_3 p k ≡ true
  rule_3_at k lt = below (length p.sites) (rule_3 p) (left _ _ (right (all_below (length p.functions) (rule_2 p)) _ behind_2)) k lt

  pub rule_4_at : (k : ℕ) → k < length p.formats → rule_4 p k ≡ true
  rule_4_at k lt = below (length p.formats) (rule_4 p) (left _ _ behind_4) k lt

  heights_long : length p.heights ≡ length p.code
  heights_long = eqb-true (length p.heights) (length p.code) (left _ _ (right (all_below (length p.formats) (rule_4 p)) _ behind_4))

  rule_6_at : (a : ℕ) → a < length p.code → rule_6 p a ≡ true
  rule_6_at a lt = below (length p.code) (rule_6 p) (left _ _ behind_6) a lt

  rule_7_at : (a : ℕ) → a < length p.code → rule_7 p a ≡ true
  rule_7_at a lt = below (length p.code) (rule_7 p) (left _ _ (right (all_below (length p.code) (rule_6 p)) _ behind_6)) a lt

  rule_8_at : (a : ℕ) → a < length p.code → rule_8 p a ≡ true
  rule_8_at a lt = below (length p.code) (rule_8 p) (right (all_below (length p.code) (rule_7 p)) _ (right (all_below (length p.code) (rule_6 p)) _ behind_6)) a lt

  -- ---- what the rules say of an instruction

  at_holds : (a : ℕ) (test : PlainFunction → Instr → Bool) (f : PlainFunction) (i : Instr) → function_at p a ≡ Some f → slice_get p.code a ≡ Some i → at_address p a test ≡ true → test f i ≡ true
  at_holds a test f i owner here h = has_of (test f) (slice_get p.code a) i here (has_of (λ g. has (test g) (slice_get p.code a)) (function_at p a) f owner h)

  module _ (f : PlainFunction) (a height : ℕ) (at : At p f a height) (i : Instr) (here : slice_get p.code a ≡ Some i) where
    pub reaches : instruction_reaches p a f i ≡ true
    reaches = at_holds a (instruction_reaches p a) f i at.owner here (rule_6_at a at.within)

    height_right : height_is_right p a f i height ≡ true
    height_right = has_of (height_is_right p a f i) (slice_get p.heights a) height at.height_is (at_holds a (λ g j. has (height_is_right p a g j) (slice_get p.heights a)) f i at.owner here (rule_7_at a at.within))

    pub enough : pops p i ≤ height
    enough = leb-true (pops p i) height (left _ _ (right (not (a == f.entry) || height == 0) _ height_right))

    succeed : list_all (succeeds_with p f (height_behind p i height)) (successors i a) ≡ true
    succeed = right (nat_le (pops p i) height) _ (right (not (a == f.entry) || height == 0) _ height_right)

    pub at_entry : a ≡ f.entry → height ≡ 0
    at_entry e = eqb-true height 0 (other (not (a == f.entry)) (height == 0) (left _ _ height_right) (ap not (eq-eqb a f.entry e)))

    end_right : (may_end i || not (is_last p a)) && has (returns_one i) (slice_get p.heights a) ≡ true
    end_right = at_holds a (λ g j. (may_end j || not (is_last p a)) && has (returns_one j) (slice_get p.heights a)) f i at.owner here (rule_8_at a at.within)

    follows_on : may_end i ≡ false → is_last p a ≡ false
    follows_on e = not-true (is_last p a) (other (may_end i) _ (left _ _ end_right) e)

    leap : (to : ℕ) → to < length p.code → same_function p a to ≡ true → succeeds_with p f (height_behind p i height) to ≡ true → Aims p.code a to → Leaps p f a (height_behind p i height) to
    leap to lt same with aims =
        let there : has (λ h. h == height_behind p i height) (slice_get p.heights to) && nat_le (height_behind p i height) f.stack ≡ true = subst (λ t. (if t then has (λ h. h == height_behind p i height) (slice_get p.heights to) && nat_le (height_behind p i height) f.stack else true) ≡ true) (lt-ltb to (length p.code) lt) with in (
          record {
            within = lt;
            height_is = has_height (slice_get p.heights to) (height_behind p i height) (left _ _ there);
            owner = ap (λ n. slice_get p.functions (n - 1)) (sym (eqb-true (begun_by p.functions a) (begun_by p.functions to) same)) ∙ at.owner;
          },
          aims,
          leb-true (height_behind p i height) f.stack (right (has (λ h. h == height_behind p i height) (slice_get p.heights to)) _ there),
        )

    pub on_next : may_end i ≡ false → Leaps p f a (height_behind p i height) (suc a)
    on_next e =
        let parts = or_parts (suc a == length p.code) (not (same_function p a (suc a))) (follows_on e) in
        let lt : suc a < length p.code = let ne = eqb-false (suc a) (length p.code) parts.0 in omega (arith, at.within, ne) in
        leap (suc a) lt (not_not (same_function p a (suc a)) parts.1) (next_passes i a _ e succeed) (λ le. absurd (omega (arith, le)))
      where
        not_not : (t : Bool) → not t ≡ false → t ≡ true
        not_not true h = refl
        not_not false h = absurd cc

  jumps_from : (f : PlainFunction) (a height : ℕ) (at : At p f a height) (i : Instr) (here : slice_get p.code a ≡ Some i) (to : ℕ) → may_jump p a to ≡ true → succeeds_with p f (height_behind p i height) to ≡ true → Aims p.code a to → Leaps p f a (height_behind p i height) to
  jumps_from f a height at i here to may with aims = leap f a height at i here to (ltb-true to (length p.code) (left _ _ may)) (left _ _ (right (nat_lt to (length p.code)) _ may)) with aims

  pub on_jump : (f : PlainFunction) (a height : ℕ) → At p f a height → (i : Instr) → slice_get p.code a ≡ Some i → JumpsBy (Leaps p f a (height_behind p i height)) i
  on_jump f a height at (Jump to) here = jumps_from f a height at (Jump to) here to (reaches f a height at (Jump to) here) (left _ _ (succeed f a height at (Jump to) here)) (is_fine p rules a (Jump to) here)
  on_jump f a height at (JumpZero to) here = jumps_from f a height at (JumpZero to) here to (reaches f a height at (JumpZero to) here) (left _ _ (right (succeeds_with p f (height_behind p (JumpZero to) height) (suc a)) _ (succeed f a height at (JumpZero to) here))) (is_fine p rules a (JumpZero to) here)
  on_jump f a height at i here = tt

  owned : (a : ℕ) (i : Instr) (o : Option PlainFunction) → slice_get p.code a ≡ Some i → has (λ f. has (instruction_reaches p a f) (slice_get p.code a)) o ≡ true → (f : PlainFunction) × (instruction_reaches p a f i ≡ true)
  owned a i None here h = absurd cc
  owned a i (Some f) here h = (f, has_of (instruction_reaches p a f) (slice_get p.code a) i here h)

  -- each instruction of the program is of some function, and reaches what is there
  pub reaches_by : (a : ℕ) (i : Instr) → slice_get p.code a ≡ Some i → (f : PlainFunction) × (instruction_reaches p a f i ≡ true)
  reaches_by a i here = owned a i (function_at p a) here (rule_6_at a (slice_get_within p.code a i here))

  -- ---- functions

  pub function_right : (k : ℕ) (f : PlainFunction) → slice_get p.functions k ≡ Some f → function_is_right p k f ≡ true
  function_right k f is = has_of (function_is_right p k) (slice_get p.functions k) f is (rule_2_at k (slice_get_within p.functions k f is))

  rising : Rises p.functions
  unfolding Rises
  rising j f g f_is g_is = ltb-true f.entry g.entry (has_of (is_after g) (slice_get p.functions j) f f_is (left _ _ (function_right (suc j) g g_is)))

  -- a function begins at its entry with nothing on the stack
  pub entered_at : (k : ℕ) (f : PlainFunction) → slice_get p.functions k ≡ Some f → At p f f.entry 0
  entered_at k f is =
      let lt = ltb-true f.entry (length p.code) (left _ _ (right (entry_rises p k f) _ (function_right k f is))) in
      let owner : function_at p f.entry ≡ Some f = ap (λ n. slice_get p.functions (n - 1)) (begun_at p.functions rising k f is) ∙ ap (λ n. slice_get p.functions n) (omega arith) ∙ is in
      let (h, h_is) = some_of p.heights f.entry (omega (arith, lt, heights_long)) in
      let (i, here) = some_of p.code f.entry lt in
      let at : At p f f.entry h = record { within = lt; height_is = h_is; owner = owner } in
      at_height p f f.entry h 0 (at_entry f f.entry h at i here refl) at

  -- parameters are among a frame's cells where these may be claimed
  pub parameters_fit : (k : ℕ) (f : PlainFunction) → slice_get p.functions k ≡ Some f → f.cells ≤ 65536 → length f.parameters ≤ frame_size f
  parameters_fit k f is le =
      let rest = right (list_all _ f.parameters) _ (right (nat_lt f.entry (length p.code)) _ (right (entry_rises p k f) _ (function_right k f is))) in
      within (nat_le (length f.parameters) f.cells) refl (left _ _ rest)
    where
      within : (t : Bool) → nat_le (length f.parameters) f.cells ≡ t → (t || f.cells == 65537) ≡ true → length f.parameters ≤ frame_size f
      within true e h = let small = leb-true (length f.parameters) f.cells e in omega (arith, small)
      within false e h = let big = eqb-true f.cells 65537 h in absurd (omega (arith, big, le))
