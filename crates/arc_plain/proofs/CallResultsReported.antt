-- What the interpreter reports of the number or object that a call or a message gives follows from what it reports of the parts.
use Rattle.std.proofs.Common.{◌≡◌, ℕ, ℤ, Result, Err, refl, sym, ap, subst, ◌∙◌}
use Rattle.arc_checked.specs.declared.program.Value as c
use Rattle.arc_checked.specs.declared.program.Reference as r
use Rattle.arc_checked.specs.Checked.{value, reference}
use Rattle.arc_spec.specs.declared.class.Gives.TheVariants as gives
use Rattle.arc_spec.specs.Resolved.{Arguments, Receiver, Call, Send, ObjectCall, ObjectSend}
use Rattle.arc_spec.specs.World.{World, Outcome, Done, Faulted, Cut, then_do, Answer, takes}
use Rattle.arc_spec.specs.Meaning.{Callees, Target, evaluated, referred, received, all_evaluated, sent, number_given, object_given}
use Rattle.arc_plain.specs.declared.given.Answered.{Answered}
use Rattle.arc_plain.specs.declared.halt.Halt.{Halt}
use Rattle.arc_plain.specs.Views.{Reports, answer_of, invoked, sent_to}
use Rattle.arc_plain.proofs.LoopsAndFailures.{finds_through}

-- what is read of an answer is the last of what is done
number_last : {A : Type 0} (o : Outcome A) (go : A → World → Outcome Answer) → then_do o (λ a w. number_given (go a w)) ≡ number_given (then_do o go)
number_last (Done a w) go = refl
number_last (Faulted f w) go = refl
number_last (Cut w) go = refl

object_last : {A : Type 0} (o : Outcome A) (go : A → World → Outcome Answer) → then_do o (λ a w. object_given (go a w)) ≡ object_given (then_do o go)
object_last (Done a w) go = refl
object_last (Faulted f w) go = refl
object_last (Cut w) go = refl

-- calls and messages that give numbers
pub number_invoked : (D : Callees) (v : c.Value) (f : ℕ) (all : Arguments) (w : World) → value v ≡ Call f all → evaluated D (value v) w ≡ number_given (invoked D gives.Number f all w)
number_invoked D v f all w is = ap (λ x. evaluated D x w) is ∙ number_last (all_evaluated D all w) (λ passed w1. D.call gives.Number f 0 passed w1)

pub number_sent : (D : Callees) (v : c.Value) (receiver : Receiver) (selector : ℕ) (all : Arguments) (w : World) → value v ≡ Send receiver selector all
    → evaluated D (value v) w ≡ number_given (sent_to D gives.Number receiver selector all w)
number_sent D v receiver selector all w is = ap (λ x. evaluated D x w) is ∙ of (received D receiver w)
  where
    of : (o : Outcome Target) → then_do o (λ target w1. then_do (all_evaluated D all w1) (λ passed w2. number_given (sent D gives.Number target selector passed w2)))
        ≡ number_given (then_do o (λ target w1. then_do (all_evaluated D all w1) (λ passed w2. sent D gives.Number target selector passed w2)))
    of (Done target w1) = number_last (all_evaluated D all w1) (λ passed w2. sent D gives.Number target selector passed w2)
    of (Faulted f w1) = refl
    of (Cut w1) = refl

-- and those that give objects
pub object_invoked : (D : Callees) (v : r.Reference) (f : ℕ) (all : Arguments) (w : World) → reference v ≡ ObjectCall f all → referred D (reference v) w ≡ object_given (invoked D gives.Object f all w)
object_invoked D v f all w is = ap (λ x. referred D x w) is ∙ object_last (all_evaluated D all w) (λ passed w1. D.call gives.Object f 0 passed w1)

pub object_sent : (D : Callees) (v : r.Reference) (receiver : Receiver) (selector : ℕ) (all : Arguments) (w : World) → reference v ≡ ObjectSend receiver selector all
    → referred D (reference v) w ≡ object_given (sent_to D gives.Object receiver selector all w)
object_sent D v receiver selector all w is = ap (λ x. referred D x w) is ∙ of (received D receiver w)
  where
    of : (o : Outcome Target) → then_do o (λ target w1. then_do (all_evaluated D all w1) (λ passed w2. object_given (sent D gives.Object target selector passed w2)))
        ≡ object_given (then_do o (λ target w1. then_do (all_evaluated D all w1) (λ passed w2. sent D gives.Object target selector passed w2)))
    of (Done target w1) = object_last (all_evaluated D all w1) (λ passed w2. sent D gives.Object target selector passed w2)
    of (Faulted f w1) = refl
    of (Cut w1) = refl

-- the number of what was given, and a failure
pub number_reported : (meant : Outcome ℤ) (part : Outcome Answer) (a : Answered) (n : ℤ) (after : World) → meant ≡ number_given part → part ≡ Done (answer_of a) after → n ≡ a.number → meant ≡ Done n after
number_reported meant part a n after is done same = is ∙ ap number_given done ∙ ap (λ m. Done m after) (sym same)

pub number_failed : (meant : Outcome ℤ) (part : Outcome Answer) (e : Halt) (result : Result ℤ Halt) (after : World) → meant ≡ number_given part → result ≡ Err e → Reports answer_of (Err e) part after
    → Reports (λ n. n) result meant after
number_failed meant part e result after is failed h =
    subst (λ x. Reports (λ n. n) x meant after) (sym failed) (finds_through e answer_of (λ n. n) after (λ a w. Done a.number w) part meant is h)

-- the object, which a temporary takes, and a failure
pub object_reported : (meant : Outcome ℕ) (part : Outcome Answer) (a : Answered) (result : Result ℕ Halt) (between after : World) → meant ≡ object_given part → part ≡ Done (answer_of a) between
    → Reports (λ n. n) result (Done a.object (takes a.object between)) after → Reports (λ n. n) result meant after
object_reported meant part a result between after is done taken = subst (λ x. Reports (λ n. n) result x after) (sym (is ∙ ap object_given done)) taken

pub object_failed : (meant : Outcome ℕ) (part : Outcome Answer) (e : Halt) (result : Result ℕ Halt) (after : World) → meant ≡ object_given part → result ≡ Err e → Reports answer_of (Err e) part after
    → Reports (λ n. n) result meant after
object_failed meant part e result after is failed h =
    subst (λ x. Reports (λ n. n) x meant after) (sym failed) (finds_through e answer_of (λ n. n) after (λ a w. Done a.object (takes a.object w)) part meant is h)
