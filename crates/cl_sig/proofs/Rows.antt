-- Rows that the definitions give, by computing.
use Rattle.std.proofs.Common.{◌≡◌, ℕ, true, false, List, [], ◌∷◌, refl}
use Rattle.std.specs.Prelude.{pos}
use Rattle.cl_value.specs.Plain.{Out, In, Land, Eval, Ready, Call}
use Rattle.cl_value.specs.declared.value.Value.TheVariants as values
use Rattle.cl_value.specs.declared.value.FieldType.TheVariants as types
use Rattle.cl_value.specs.declared.template.Slot.TheVariants as slots
use Rattle.cl_sig.specs.Chains.{neighbours, Leads}
use Rattle.cl_sig.specs.Classes.{members, class}
use Rattle.cl_sig.specs.Instances.{is_of_its_site}
use Rattle.cl_sig.specs.Numbers.{in_order, count_of}
use Rattle.cl_sig.specs.Shapes.{PlainShape, shape}
use Rattle.cl_sig.specs.Signatures.{PlainSignature}
use Rattle.cl_sig.specs.Suits.{suits}
use Rattle.cl_sig.specs.declared.shape.Class.TheVariants as classes
use Rattle.cl_sig.specs.declared.signature.Kind.{Kind}
use Rattle.cl_sig.specs.declared.signature.Kind.TheVariants as kinds
use Rattle.cl_sig.specs.declared.signature.Mark.{Mark}
use Rattle.cl_sig.specs.declared.signature.Mark.TheVariants as marks

abbrev pub site : Kind → List Mark → PlainSignature
site kind fields = record { kind = kind; fields = fields; place = 0 }

abbrev pub text : ℕ → Mark
text n = marks.Constant (values.Text n)

abbrev pub number : ℕ → Mark
number n = marks.Constant (values.Int (pos n))

abbrev pub int : Mark
int = marks.Actual types.Int

abbrev pub into_int : Mark
into_int = marks.Formal types.Int

-- ---- out("k",1); in("k",2); out("k",i);

abbrev pub apart : List PlainSignature
apart = site kinds.Out (text 0 ∷ number 1 ∷ []) ∷ site kinds.In (text 0 ∷ number 2 ∷ []) ∷ []

pub other_literals_never_meet : neighbours apart 0 1 ≡ false
other_literals_never_meet = refl

pub one_literal_is_a_counter : class (members apart (0 ∷ 1 ∷ []) 0) ≡ classes.Counter
one_literal_is_a_counter = refl

abbrev pub keyed : List PlainSignature
keyed = site kinds.Out (text 0 ∷ number 1 ∷ []) ∷ site kinds.In (text 0 ∷ number 2 ∷ []) ∷ site kinds.Out (text 0 ∷ int ∷ []) ∷ []

pub an_actual_meets_a_literal : neighbours keyed 2 1 ≡ true
an_actual_meets_a_literal = refl

pub producers_never_meet : neighbours keyed 0 2 ≡ false
producers_never_meet = refl

abbrev pub keyed_shape : PlainShape
keyed_shape = record { set = 1; class = classes.Keyed 1; common = site kinds.In (text 0 ∷ int ∷ []); sites = 1 ∷ 2 ∷ [] }

pub shape_of_two_sites : shape keyed (0 ∷ 1 ∷ 1 ∷ []) 1 ≡ keyed_shape
shape_of_two_sites = refl

pub a_template_with_the_key_suits : suits keyed_shape (record { site = 1; ask = In (slots.Actual (values.Text 0) ∷ slots.Actual (values.Int (pos 2)) ∷ []) }) ≡ true
a_template_with_the_key_suits = refl

pub a_formal_at_the_key_does_not : suits keyed_shape (record { site = 1; ask = In (slots.Actual (values.Text 0) ∷ slots.Formal types.Int ∷ []) }) ≡ false
a_formal_at_the_key_does_not = refl

pub a_site_of_another_set_does_not : suits keyed_shape (record { site = 0; ask = Out (values.Text 0 ∷ values.Int (pos 1) ∷ []) }) ≡ false
a_site_of_another_set_does_not = refl

pub its_own_literal_is_an_instance : is_of_its_site keyed (record { site = 0; ask = Out (values.Text 0 ∷ values.Int (pos 1) ∷ []) }) ≡ true
its_own_literal_is_an_instance = refl

pub another_literal_is_not : is_of_its_site keyed (record { site = 0; ask = Out (values.Text 0 ∷ values.Int (pos 2) ∷ []) }) ≡ false
another_literal_is_not = refl

-- ---- out("p",i,j); in("p",?a,3); in("p",3,?b);

abbrev pub crossed : List PlainSignature
crossed =
    site kinds.Out (text 0 ∷ int ∷ int ∷ []) ∷ site kinds.In (text 0 ∷ into_int ∷ number 3 ∷ []) ∷ site kinds.In (text 0 ∷ number 3 ∷ into_int ∷ []) ∷ []

pub no_key_is_a_list : class (members crossed (0 ∷ 0 ∷ 0 ∷ []) 0) ≡ classes.List
no_key_is_a_list = refl

pub consumers_are_joined_by_a_producer : Leads crossed 1 (0 ∷ 2 ∷ []) 2
consumers_are_joined_by_a_producer = (refl, (refl, refl))

-- ---- out("x",1); out("x",2); in("x",i);

abbrev pub joined : List PlainSignature
joined = site kinds.Out (text 0 ∷ number 1 ∷ []) ∷ site kinds.Out (text 0 ∷ number 2 ∷ []) ∷ site kinds.In (text 0 ∷ int ∷ []) ∷ []

pub producers_are_joined_by_a_consumer : Leads joined 0 (2 ∷ 1 ∷ []) 1
producers_are_joined_by_a_consumer = (refl, (refl, refl))

-- ---- out("x",1); in("x",?l); with a `long`

pub other_types_never_meet : neighbours (site kinds.Out (text 0 ∷ number 1 ∷ []) ∷ site kinds.In (text 0 ∷ marks.Formal types.Long ∷ []) ∷ []) 0 1 ≡ false
other_types_never_meet = refl

-- ---- the philosophers: the room's tickets, the chopsticks, the philosophers

abbrev pub philosophers : List PlainSignature
philosophers =
    site kinds.In (text 0 ∷ []) ∷ site kinds.In (text 1 ∷ int ∷ []) ∷ site kinds.In (text 1 ∷ int ∷ []) ∷ site kinds.Out (text 1 ∷ int ∷ []) ∷ site kinds.Out (text 1 ∷ int ∷ []) ∷ site kinds.Out (text 0 ∷ []) ∷ site kinds.Out (text 1 ∷ int ∷ []) ∷ site kinds.Eval (text 2 ∷ int ∷ []) ∷ site kinds.Out (text 0 ∷ []) ∷ site kinds.In (text 2 ∷ into_int ∷ []) ∷ []

abbrev pub seats : List ℕ
seats = 0 ∷ 1 ∷ 1 ∷ 1 ∷ 1 ∷ 0 ∷ 1 ∷ 2 ∷ 0 ∷ 2 ∷ []

pub three_sets_in_order : in_order 0 seats ≡ true
three_sets_in_order = refl

pub three_sets : count_of seats ≡ 3
three_sets = refl

pub tickets_are_counted : class (members philosophers seats 0) ≡ classes.Counter
tickets_are_counted = refl

pub chopsticks_are_keyed : class (members philosophers seats 1) ≡ classes.Keyed 1
chopsticks_are_keyed = refl

pub philosophers_are_queued : class (members philosophers seats 2) ≡ classes.Queue
philosophers_are_queued = refl

pub a_landing_is_of_its_eval : is_of_its_site philosophers (record { site = 7; ask = Land (values.Text 2 ∷ values.Int (pos 4) ∷ []) }) ≡ true
a_landing_is_of_its_eval = refl

pub a_call_is_an_actual : is_of_its_site philosophers (record { site = 7; ask = Eval (Ready (values.Text 2) ∷ Call 0 [] types.Int ∷ []) }) ≡ true
a_call_is_an_actual = refl

-- ---- the generated source: tasks, results, workers

abbrev pub workers : List PlainSignature
workers =
    site kinds.In (text 0 ∷ into_int ∷ []) ∷ site kinds.Out (text 1 ∷ int ∷ int ∷ []) ∷ site kinds.Eval (text 2 ∷ int ∷ []) ∷ site kinds.Out (text 0 ∷ int ∷ []) ∷ site kinds.In (text 1 ∷ int ∷ into_int ∷ []) ∷ site kinds.Out (text 0 ∷ number 1 ∷ []) ∷ site kinds.In (text 2 ∷ into_int ∷ []) ∷ []

abbrev pub jobs : List ℕ
jobs = 0 ∷ 1 ∷ 2 ∷ 0 ∷ 1 ∷ 0 ∷ 2 ∷ []

pub tasks_are_queued : class (members workers jobs 0) ≡ classes.Queue
tasks_are_queued = refl

pub results_are_keyed : class (members workers jobs 1) ≡ classes.Keyed 1
results_are_keyed = refl

pub workers_are_queued : class (members workers jobs 2) ≡ classes.Queue
workers_are_queued = refl

-- ---- a single producer

pub a_single_literal_is_a_counter : class (site kinds.Out (text 0 ∷ number 1 ∷ []) ∷ []) ≡ classes.Counter
a_single_literal_is_a_counter = refl

pub a_single_producer_is_a_queue : class (site kinds.Out (text 0 ∷ int ∷ []) ∷ []) ≡ classes.Queue
a_single_producer_is_a_queue = refl
