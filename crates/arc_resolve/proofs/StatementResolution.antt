-- What declarations, statements and functions are resolved to, one more at a time.
use Rattle.std.proofs.Common.{◌≡◌, ℕ, ◌+◌, ◌-◌, ◌<◌, ◌≤◌, Bool, List, [], ◌∷◌, ◌++◌, length, get_or, drop, Some, None, Vec, Global, option_map, refl, sym, ap, ◌∙◌}
use Rattle.std.specs.List.{filter_map, cons_option}
use Rattle.arc_ast.specs.declared.tree.Moment.{Moment}
use Rattle.arc_ast.specs.declared.tree.Function.{Function}
use Rattle.arc_ast.specs.declared.tree.Parameter.{Parameter}
use Rattle.arc_ast.specs.declared.tree.Stmt as stmt
use Rattle.arc_ast.specs.declared.tree.Stmt.{Stmt}
use Rattle.arc_ast.specs.declared.tree.Variable.{Variable}
use Rattle.arc_ast.specs.Types.{result_kind}
use Rattle.arc_ast.specs.Tree.{TypeTree, StmtTrees, ParameterTree, result_tree, expr_tree, stmt_tree, stmt_trees, variable_trees, parameter_trees, parameters_tree, function_trees}
use Rattle.arc_spec.specs.declared.class.Gives.{Gives}
use Rattle.arc_spec.specs.Classes.{gives_of}
use Rattle.arc_spec.specs.Resolved as resolved
use Rattle.arc_spec.specs.Resolved.{Commands, no_commands, and_command}
use Rattle.arc_sites.specs.Sites.{named_parameters}
use Rattle.arc_checked.specs.declared.program.Command as command
use Rattle.arc_checked.specs.declared.program.Command.{Command}
use Rattle.arc_checked.specs.declared.program.CheckedFunction.{CheckedFunction}
use Rattle.arc_resolve.specs.private.ResolvedNodes.{ahead_of, function_of, functions_ahead}
use Rattle.arc_checked.specs.Checked as checked
use Rattle.arc_resolve.specs.SourceResolution.{declared, resolved_variables, resolved_stmt, resolved_stmts, resolved_body, resolved_function, with_loop}
use Rattle.arc_scope.specs.Scopes.{Known, Scope, declare, with_parameters, leave, scope_after, scope_after_all, outermost, owned_in}
use Rattle.arc_scope.proofs.ScopeKept.{after_all_same}
use Rattle.arc_scope.proofs.ListSuffixes.{drop_turn, drop_end}
use Rattle.arc_ast.proofs.Trees.{block_tree}
use Rattle.arc_checked.proofs.NodeParts.{sequence_command}

ahead_of-push : (all : List Command) (a : Command) (others : Commands) → ahead_of (all ++ a ∷ []) others ≡ ahead_of all (and_command (checked.command a) others)
ahead_of-push [] a others = refl
ahead_of-push (b ∷ all) a others = ap (and_command (checked.command b)) (ahead_of-push all a others)

ahead_of-none : (all : List Command) → ahead_of all no_commands ≡ checked.commands all
ahead_of-none [] = refl
ahead_of-none (b ∷ all) = ap (and_command (checked.command b)) (ahead_of-none all)

-- one command more
pub one_more : (old new : List Command) (a : Command) (one : resolved.Command) (others : Commands) → new ≡ old ++ a ∷ [] → checked.command a ≡ one → ahead_of new others ≡ ahead_of old (and_command one others)
one_more old new a one others n h = ap (λ us. ahead_of us others) n ∙ ahead_of-push old a others ∙ ap (λ c. ahead_of old (and_command c others)) h

-- ---- declarations

pub declared_turn : (type : TypeTree) (s after : Scope) (xs : List Variable) (i : ℕ) (x : Variable) (old new : List Command) (whole : Commands) → i < length xs → x ≡ get_or xs i x → after ≡ declare x.name.items type s
    → ((others : Commands) → ahead_of new others ≡ ahead_of old (declared type s after (option_map expr_tree x.initial) others))
    → whole ≡ ahead_of old (resolved_variables type s (variable_trees (drop i xs))) → whole ≡ ahead_of new (resolved_variables type after (variable_trees (drop (i + 1) xs)))
declared_turn type s after xs i x old new whole l e d h w =
    w ∙ ap (λ us. ahead_of old (resolved_variables type s (variable_trees us))) (drop_turn xs i x l e)
    ∙ ap (λ p. ahead_of old (declared type s p (option_map expr_tree x.initial) (resolved_variables type p (variable_trees (drop (i + 1) xs))))) (sym d)
    ∙ sym (h (resolved_variables type after (variable_trees (drop (i + 1) xs))))

pub declared_end : (type : TypeTree) (s : Scope) (xs : List Variable) (i : ℕ) (all : List Command) (whole : Commands) → length xs ≤ i → whole ≡ ahead_of all (resolved_variables type s (variable_trees (drop i xs))) → checked.commands all ≡ whole
declared_end type s xs i all whole l w = sym (w ∙ ap (λ us. ahead_of all (resolved_variables type s (variable_trees us))) (drop_end xs i l) ∙ ahead_of-none all)

-- ---- statements

pub commands_turn : (s after : Scope) (xs : List Stmt) (i : ℕ) (x : Stmt) (old new : List Command) (a : Command) (whole : Commands) → i < length xs → x ≡ get_or xs i x → after ≡ scope_after s (stmt_tree x) → checked.command a ≡ resolved_stmt s (stmt_tree x) → new ≡ old ++ a ∷ []
    → whole ≡ ahead_of old (resolved_stmts s (stmt_trees (drop i xs))) → whole ≡ ahead_of new (resolved_stmts after (stmt_trees (drop (i + 1) xs)))
commands_turn s after xs i x old new a whole l e d h n w =
    w ∙ ap (λ us. ahead_of old (resolved_stmts s (stmt_trees us))) (drop_turn xs i x l e)
    ∙ ap (λ p. ahead_of old (and_command (resolved_stmt s (stmt_tree x)) (resolved_stmts p (stmt_trees (drop (i + 1) xs))))) (sym d)
    ∙ sym (one_more old new a (resolved_stmt s (stmt_tree x)) (resolved_stmts after (stmt_trees (drop (i + 1) xs))) n h)

pub commands_end : (s : Scope) (xs : List Stmt) (i : ℕ) (all : List Command) (whole : Commands) → length xs ≤ i → whole ≡ ahead_of all (resolved_stmts s (stmt_trees (drop i xs))) → checked.commands all ≡ whole
commands_end s xs i all whole l w = sym (w ∙ ap (λ us. ahead_of all (resolved_stmts s (stmt_trees us))) (drop_end xs i l) ∙ ahead_of-none all)

pub after_turn : (s after whole : Scope) (xs : List Stmt) (i : ℕ) (x : Stmt) → i < length xs → x ≡ get_or xs i x → after ≡ scope_after s (stmt_tree x) → whole ≡ scope_after_all s (stmt_trees (drop i xs)) → whole ≡ scope_after_all after (stmt_trees (drop (i + 1) xs))
after_turn s after whole xs i x l e a w = w ∙ ap (λ us. scope_after_all s (stmt_trees us)) (drop_turn xs i x l e) ∙ ap (λ p. scope_after_all p (stmt_trees (drop (i + 1) xs))) (sym a)

-- a block, with its own variables that name objects
abbrev pub block_of : Scope → StmtTrees → resolved.Command
block_of s all = resolved.Sequence s.names ((scope_after_all s all).names - s.names) (resolved_stmts s all)

pub block_command : (s : Scope) (a : Stmt) (at : ℕ) (all : Vec Stmt Global) (items : List Stmt) → a ≡ stmt.Block at all → items ≡ all.items → block_of s (stmt_trees items) ≡ resolved_stmt s (stmt_tree a)
block_command s a at all items e m = ap (λ us. block_of s (stmt_trees us)) m ∙ sym (ap (resolved_stmt s) (ap stmt_tree e ∙ block_tree at all))

pub block_scope : (s : Scope) (a : Stmt) (at : ℕ) (all : Vec Stmt Global) (items : List Stmt) → a ≡ stmt.Block at all → items ≡ all.items → leave s (scope_after_all s (stmt_trees items)) ≡ scope_after s (stmt_tree a)
block_scope s a at all items e m = ap (λ us. leave s (scope_after_all s (stmt_trees us))) m ∙ sym (ap (scope_after s) (ap stmt_tree e ∙ block_tree at all))

pub choose_is : (test other : resolved.Value) (a b c d : resolved.Command) → test ≡ other → a ≡ b → c ≡ d → resolved.If test a c ≡ resolved.If other b d
choose_is test other a b c d t e f = rw (t, e, f) refl

pub repeat_is : (moment : Moment) (test other : resolved.Value) (a b c d : resolved.Command) → test ≡ other → a ≡ b → c ≡ d → resolved.While moment test a c ≡ resolved.While moment other b d
repeat_is moment test other a b c d t e f = rw (t, e, f) refl

-- what comes before a loop, and the loop
pub loop_command : (s own : Scope) (first count : ℕ) (all : Vec Command Global) (a b : Command) (one loop : resolved.Command) → all.items ≡ a ∷ b ∷ [] → first ≡ s.names → count ≡ own.names - s.names → checked.command a ≡ one → checked.command b ≡ loop
    → checked.command (command.Sequence first count all) ≡ with_loop s own one loop
loop_command s own first count all a b one loop i n m e f = sequence_command first count all ∙ rw (i, n, m, e, f) refl

-- ---- functions

abbrev function : ℕ → ℕ → ℕ → Gives → Bool → Commands → resolved.Function
function slots names parameters gives owns body = record { slots = slots; names = names; parameters = parameters; gives = gives; owns = owns; body = body }

pub function_is : (parameters : List ParameterTree) (body : StmtTrees) (f : CheckedFunction) (empty before after : Scope) → before ≡ with_parameters empty parameters → after ≡ scope_after_all before body → checked.commands f.body.items ≡ resolved_stmts before body
    → f.slots ≡ after.next → f.names ≡ after.names → f.parameters ≡ before.names - owned_in before.owns → f.gives ≡ gives_of after.result → f.owns ≡ after.owns → function_of f ≡ resolved_body (with_parameters empty parameters) body
function_is parameters body f empty before after b a c n m p g o =
    let start = with_parameters empty parameters in
    let end = scope_after_all start body in
    let same : after ≡ end = a ∙ ap (λ s. scope_after_all s body) b in
    let stays = after_all_same start body in
    let all = checked.commands f.body.items in
    let passed = start.names - owned_in start.owns in
    ap (λ x. function x f.names f.parameters f.gives f.owns all) (n ∙ ap (λ s. s.next) same) ∙ ap (λ x. function end.next x f.parameters f.gives f.owns all) (m ∙ ap (λ s. s.names) same)
    ∙ ap (λ x. function end.next end.names x f.gives f.owns all) (p ∙ ap (λ s. s.names - owned_in s.owns) b) ∙ ap (λ x. function end.next end.names passed x f.owns all) (g ∙ ap (λ s. gives_of s.result) same ∙ ap gives_of stays.result)
    ∙ ap (λ x. function end.next end.names passed (gives_of start.result) x all) (o ∙ ap (λ s. s.owns) same ∙ stays.owns) ∙ ap (function end.next end.names passed (gives_of start.result) start.owns) (c ∙ ap (λ s. resolved_stmts s body) b)

pub functions_ahead-push : (all : List CheckedFunction) (a : CheckedFunction) (others : List resolved.Function) → functions_ahead (all ++ a ∷ []) others ≡ functions_ahead all (function_of a ∷ others)
functions_ahead-push [] a others = refl
functions_ahead-push (b ∷ all) a others = ap (λ us. function_of b ∷ us) (functions_ahead-push all a others)

functions_ahead-none : (all : List CheckedFunction) → functions_ahead all [] ≡ checked.functions all
functions_ahead-none [] = refl
functions_ahead-none (b ∷ all) = ap (λ us. function_of b ∷ us) (functions_ahead-none all)

-- one function more, with a body
pub functions_turn : (known : Known) (xs : List Function) (i : ℕ) (x : Function) (named : List Parameter) (body : Vec Stmt Global) (items : List Stmt) (old : List CheckedFunction) (pushed new : Vec CheckedFunction Global) (a : CheckedFunction) (s : Scope) (whole : List resolved.Function) → i < length xs → x ≡ get_or xs i x
    → x.body ≡ Some body → items ≡ body.items → parameter_trees named ≡ named_parameters (parameters_tree x.parameters) → s ≡ outermost known (result_kind (result_tree x.result)) → function_of a ≡ resolved_body (with_parameters s (parameter_trees named)) (stmt_trees items) → pushed.items ≡ old ++ a ∷ [] → new ≡ pushed
    → whole ≡ functions_ahead old (filter_map (resolved_function known) (function_trees (drop i xs))) → whole ≡ functions_ahead new.items (filter_map (resolved_function known) (function_trees (drop (i + 1) xs)))
functions_turn known xs i x named body items old pushed new a s whole l e o m p q h n v w =
    let rest = filter_map (resolved_function known) (function_trees (drop (i + 1) xs)) in
    let ps = named_parameters (parameters_tree x.parameters) in
    let own : function_of a ≡ resolved_body (with_parameters (outermost known (result_kind (result_tree x.result))) ps) (stmt_trees body.items) =
    h ∙ ap (λ b. resolved_body (with_parameters b (parameter_trees named)) (stmt_trees items)) q ∙ ap (λ us. resolved_body (with_parameters (outermost known (result_kind (result_tree x.result))) us) (stmt_trees items)) p ∙ ap (λ us. resolved_body (with_parameters (outermost known (result_kind (result_tree x.result))) ps) (stmt_trees us)) m in
    w ∙ ap (λ us. functions_ahead old (filter_map (resolved_function known) (function_trees us))) (drop_turn xs i x l e) ∙ ap (λ b. functions_ahead old (cons_option (option_map (resolved_body (with_parameters (outermost known (result_kind (result_tree x.result))) ps)) (option_map (λ b. stmt_trees b.items) b)) rest)) o
    ∙ ap (λ f. functions_ahead old (f ∷ rest)) (sym own) ∙ sym (functions_ahead-push old a rest) ∙ ap (λ us. functions_ahead us rest) (sym n) ∙ ap (λ us. functions_ahead us.items rest) (sym v)

-- one function more, without a body
pub functions_pass : (known : Known) (xs : List Function) (i : ℕ) (x : Function) (old new : List CheckedFunction) (whole : List resolved.Function) → i < length xs → x ≡ get_or xs i x → x.body ≡ None → new ≡ old
    → whole ≡ functions_ahead old (filter_map (resolved_function known) (function_trees (drop i xs))) → whole ≡ functions_ahead new (filter_map (resolved_function known) (function_trees (drop (i + 1) xs)))
functions_pass known xs i x old new whole l e o n w =
    let rest = filter_map (resolved_function known) (function_trees (drop (i + 1) xs)) in
    w ∙ ap (λ us. functions_ahead old (filter_map (resolved_function known) (function_trees us))) (drop_turn xs i x l e)
    ∙ ap (λ b. functions_ahead old (cons_option (option_map (resolved_body (with_parameters (outermost known (result_kind (result_tree x.result))) (named_parameters (parameters_tree x.parameters)))) (option_map (λ b. stmt_trees b.items) b)) rest)) o ∙ ap (λ us. functions_ahead us rest) (sym n)

pub functions_end : (known : Known) (xs : List Function) (i : ℕ) (all : List CheckedFunction) (whole : List resolved.Function) → length xs ≤ i → whole ≡ functions_ahead all (filter_map (resolved_function known) (function_trees (drop i xs))) → checked.functions all ≡ whole
functions_end known xs i all whole l w = sym (w ∙ ap (λ us. functions_ahead all (filter_map (resolved_function known) (function_trees us))) (drop_end xs i l) ∙ functions_ahead-none all)
