-- The grammar passes the test, rule by rule.
use Rattle.std.proofs.Common.{◌≡◌, ℕ, zero, suc, min, List, Bool, true, false, ◌&&◌, ◌<◌, ◌≤◌, ◌⊎◌, inl, inr, refl, subst, arith}
use Rattle.std.proofs.lemmas.Bool.{cases_lt}
use Rattle.arc_lex.specs.Tokens.{Tok}
use Rattle.arc_lex.specs.declared.mark.Mark.TheVariants as m
use Rattle.arc_lex.specs.declared.word.Word.TheVariants as w
use Rattle.arc_form.specs.Kinds.{none, ◌∪◌, mark, word}
use Rattle.arc_form.specs.Form.{Limits, ◌⨾◌, bounded, call, run}
use Rattle.arc_form.proofs.Static.{Facts, passes, holds, decided, Decided, nullable, fits_as, fits, Fits, of_fits}
use Rattle.arc_form.proofs.Sets.{both}
use Rattle.arc_form.proofs.Local.{Takes}
use Rattle.arc_form.proofs.FormLocal.{some_front, read_is}
use Rattle.arc_grammar.specs.Grammar.{Part, Rule, rules, expr, unary, binary, condition, stmt, after_comma, commas, listed, called, table, begins_suffix, begins_expr, begins_stmt, assigning, loosest, marks_up_to, further, more, up_to, chosen, choice, continued, conditional_expr, perhaps, long_type, one_word, plain_type, class_type, value_type_of, value_type, qualifier, more_qualifiers, qualifiers, some_qualifiers, literal, counting, field_name, suffix, suffixes, given, arguments, named, some_parts, parts, sent, to_super, to_object, message, inside, cast_to_plain, cast, product, cast_or_product, parenthesized, primary, postfix, operator_before, signed, counted, prefixed, operations, assigned, updated, operation, expression, full, initial, variable, declared_type, starred_variable, variables, declaration, qualified_declaration, simple, empty, value, returned, controlling, otherwise, if_else, while_do, test_after, do_while, beginning, step, clauses, for_do, breaking, continuing, by_name, item, items, block, statement, parameter, texts_name, texts, second, counted_parameters, listed_parameters, parameters, enclosed, braces, function_body, main_function, other_function, function, plain_constant, negative_constant, constant, first_constant, global, starred_global, globals, enclosed_type, typed, selector, sign, result_type, enclosed_result, method_result, method_head, next_head, method_heads, perhaps_semicolon, method, methods, qualified_name, starred_name, typed_fields, qualified_fields, group, groups, fields, interface, implementation, class_names, of_void, typed_top, of_type, typed_globals, of_qualified, external, top, tops, unit, body}
use Rattle.arc_grammar.specs.Grammar as grammar

-- an expression whose operators are of a level or tighter
abbrev of_operand : ℕ → Facts
of_operand l = record { begins = begins_expr; goes_on = begins_suffix ∪ mark m.OpenParen ∪ marks_up_to l; bars = none }

abbrev pub facts : Rule → Facts
facts expr = record { begins = begins_expr; goes_on = begins_suffix ∪ mark m.OpenParen ∪ mark m.Assign ∪ marks_up_to assigning ∪ mark m.Question; bars = none }
facts unary = of_operand 0
facts (binary l) = of_operand (min l loosest)
facts condition = record { begins = begins_expr; goes_on = begins_suffix ∪ mark m.OpenParen ∪ marks_up_to loosest ∪ mark m.Question; bars = none }
facts (stmt d) = record { begins = begins_stmt; goes_on = none; bars = word w.Else }

-- `unfolding lines` opens each line of the grammar, so that the test is a computation.
unfoldable pub lines : Unit {0}
unfolding after_comma commas listed table further more up_to chosen choice continued conditional_expr perhaps long_type one_word plain_type class_type value_type_of value_type qualifier more_qualifiers qualifiers some_qualifiers literal counting field_name suffix suffixes given arguments named some_parts parts sent to_super to_object message inside cast_to_plain cast product cast_or_product parenthesized primary postfix operator_before signed counted prefixed operations assigned updated operation expression full initial variable declared_type starred_variable variables declaration qualified_declaration simple empty value returned controlling otherwise if_else while_do test_after do_while beginning step clauses for_do breaking continuing by_name item items block statement parameter texts_name texts second counted_parameters listed_parameters parameters enclosed braces function_body main_function other_function function plain_constant negative_constant constant first_constant global starred_global globals enclosed_type typed selector sign result_type enclosed_result method_result method_head next_head method_heads perhaps_semicolon method methods qualified_name starred_name typed_fields qualified_fields group groups fields interface implementation class_names of_void typed_top of_type typed_globals of_qualified external top tops unit body
lines = tt

-- what `fits` asks of an operand
abbrev operand_fits : ℕ → Bool
operand_fits l = passes (fits_as facts (of_operand l) (operations l))

-- what holds of each number up to one
abbrev holds_to : (ℕ → Bool) → ℕ → Bool
holds_to P zero = P 0
holds_to P (suc n) = holds_to P n && P (suc n)

at_each : (P : ℕ → Bool) (n l : ℕ) → holds_to P n ≡ true → P (min l n) ≡ true
at_each P zero l h = subst (λ k. P k ≡ true) (omega arith) h
at_each P (suc n) l h = let parts = both (holds_to P n) (P (suc n)) h in go (cases_lt n l) parts.1 (at_each P n l parts.0)
  where
    go : (n < l) ⊎ (l ≤ n) → P (suc n) ≡ true → P (min l n) ≡ true → P (min l (suc n)) ≡ true
    go (inl p) last before = subst (λ k. P k ≡ true) (omega (arith, p)) last
    go (inr p) last before = subst (λ k. P k ≡ true) (omega (arith, p)) before

each_operand : holds_to operand_fits loosest ≡ true
unfolding lines
each_operand = refl

passed : (n : Rule) → passes (fits facts body n) ≡ true
unfolding lines
passed expr = refl
passed unary = refl
passed (binary l) = at_each operand_fits loosest l each_operand
passed condition = refl
passed (stmt d) = refl

pub sure : (n : Rule) → Fits facts body n
sure n = of_fits facts body n (passed n)

-- and so does the whole
pub sure_unit : Decided facts unit
unfolding lines
sure_unit = holds (decided facts unit) refl

-- and a full-expression
pub sure_full : Decided facts (bounded expression)
unfolding lines
sure_full = holds (decided facts (bounded expression)) refl

-- a part that is some token at least takes one
pub front : (limits : Limits) {A : Type 0} (part : Part A) → passes (decided facts part) ≡ true → nullable facts part ≡ false → Takes 1 (run rules limits part)
front limits part d n = some_front facts body sure limits part (holds (decided facts part) d) n

-- a rule reads what its line does
pub read_rule : (limits : Limits) (n : Rule) (ts : List Tok) → rules limits n ts ≡ run rules limits (body n) ts
read_rule limits n = read_is facts body sure limits n

-- a part that is some token at least
pub record TakesToken {A : Type 0} (part : Part A) : Type 0 where
  pub decided : passes (decided facts part) ≡ true
  pub some : nullable facts part ≡ false

pub takes : {A : Type 0} {part : Part A} → passes (decided facts part) ≡ true → nullable facts part ≡ false → TakesToken part
takes d n = record { decided = d; some = n }

-- of a list of names that are declared, each part after a comma, whether their type is a class's or not
next_declared : (of_class : Bool) → TakesToken (after_comma (grammar.starred_variable of_class)) × TakesToken (after_comma (grammar.starred_name of_class)) × TakesToken (after_comma (grammar.starred_global of_class))
unfolding lines
next_declared true = (takes refl refl, takes refl refl, takes refl refl)
next_declared false = (takes refl refl, takes refl refl, takes refl refl)

-- the parts that loops read
pub taking : TakesToken grammar.suffix × TakesToken (after_comma (call expr)) × TakesToken grammar.qualifier × ((d : ℕ) → TakesToken (grammar.item d)) × ((c : Bool) → TakesToken (after_comma (grammar.starred_variable c))) × TakesToken (after_comma grammar.parameter)
    × TakesToken grammar.next_head × TakesToken grammar.method × TakesToken (called ⨾ grammar.the m.Colon ⨾ typed) × ((c : Bool) → TakesToken (after_comma (grammar.starred_name c))) × TakesToken grammar.group × TakesToken (after_comma called) × ((c : Bool) → TakesToken (after_comma (grammar.starred_global c))) × TakesToken grammar.top
unfolding lines
taking = (takes refl refl, takes refl refl, takes refl refl, λ d. takes refl refl, λ c. (next_declared c).0, takes refl refl, takes refl refl, takes refl refl, takes refl refl, λ c. (next_declared c).1, takes refl refl, takes refl refl, λ c. (next_declared c).2, takes refl refl)
