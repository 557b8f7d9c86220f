-- Grammars as data: what the right side of a rule may be made of, and how it is read.
use Rattle.std.specs.Prelude.{ℕ, zero, suc, List, length, Option, None}
use Rattle.arc_lex.specs.Tokens.{Tok}
use Rattle.arc_form.specs.Kinds.{Kinds}
use Rattle.arc_form.specs.Reader.{Reader, ◌>>=◌, ret, unexpected, second_unexpected, if_sees, if_sees_two, take_one, loop, allowed, nested, up_to}

-- How deep something nests, and how many tokens a bounded part has, at most. None is no limit.
pub record Limits : Type 0 where
  pub depth : Option ℕ
  pub tokens : Option ℕ

-- without limits
abbrev pub unlimited : Limits
unlimited = record { depth = None; tokens = None }

-- The right side of a rule of a grammar whose rules are N, and what it gives. Rule n gives a Node n.
infixr 20 ◌⨾◌
pub data Form (N : Type 0) (Node : N → Type 0) : Type 0 → Type 1 where
  -- one token of these kinds
  token : {A : Type 0} → Kinds → (Tok → A) → Form N Node A
  -- no token
  give : {A : Type 0} → A → Form N Node A
  -- a rule
  call : (n : N) → Form N Node (Node n)
  -- the same tokens, but another value
  map : {A B : Type 0} → (A → B) → Form N Node A → Form N Node B
  -- one after the other
  ◌⨾◌ : {A B : Type 0} → Form N Node A → Form N Node B → Form N Node (A × B)
  -- one after the other, and the second is nested so deep, whatever token it begins with
  into : {A B : Type 0} → ℕ → Form N Node A → Form N Node B → Form N Node (A × B)
  -- one of the two: the first, where a token of these kinds is ahead
  choose : {A : Type 0} → Kinds → Form N Node A → Form N Node A → Form N Node A
  -- as many as there are: one more, where a token of these kinds is ahead
  many : {A : Type 0} → Kinds → Form N Node A → Form N Node (List A)
  -- this, or nothing where no token of these kinds comes after it
  or_none : {A : Type 0} → Kinds → Form N Node A → A → Form N Node A
  -- this, which is nested so deep and begins with a token of these kinds
  nest : {A : Type 0} → ℕ → Kinds → Form N Node A → Form N Node A
  -- this, of as many tokens as the limit allows; no limit holds in it
  bounded : {A : Type 0} → Form N Node A → Form N Node A
  -- the first, where a token of the first kinds is ahead and after it one of the second kinds; otherwise the second
  two_ahead : {A : Type 0} → Kinds → Kinds → Form N Node A → Form N Node A → Form N Node A
  -- this, which does not begin with a token of the first kinds and after it one of the second kinds
  avoid : {A : Type 0} → Kinds → Kinds → Form N Node A → Form N Node A

-- readers of all rules
abbrev pub Rules : (N : Type 0) → (N → Type 0) → Type 0
Rules N Node = (n : N) → Reader (Node n)

-- what reads a form, where rules are read so
abbrev pub run : {N : Type 0} {Node : N → Type 0} → (Limits → Rules N Node) → Limits → {A : Type 0} → Form N Node A → Reader A
run of limits (token T g) = take_one T g
run of limits (give a) = ret a
run of limits (call n) = of limits n
run of limits (map h f) = run of limits f >>= (λ a. ret (h a))
run of limits (f ⨾ g) = run of limits f >>= (λ a. run of limits g >>= (λ b. ret (a, b)))
run of limits (into d f g) = run of limits f >>= (λ a. allowed limits.depth d >>= (λ u. run of limits g >>= (λ b. ret (a, b))))
run of limits (choose T f g) = if_sees T (run of limits f) (run of limits g)
run of limits (many T f) = loop T (run of limits f)
run of limits (or_none T f a) = if_sees T (run of limits f) (ret a)
run of limits (nest d T f) = nested limits.depth d T (run of limits f)
run of limits (bounded f) = up_to limits.tokens (run of unlimited f)
run of limits (two_ahead T U f g) = if_sees_two T U (run of limits f) (run of limits g)
run of limits (avoid T U f) = if_sees_two T U second_unexpected (run of limits f)

-- the right sides of all rules
abbrev pub Bodies : (N : Type 0) → (N → Type 0) → Type 1
Bodies N Node = (n : N) → Form N Node (Node n)

-- the rules, where at most so many are under way at once
unfoldable pub deep : {N : Type 0} {Node : N → Type 0} → Bodies N Node → ℕ → Limits → Rules N Node
deep body zero = λ limits rule. unexpected
deep body (suc n) = λ limits rule. run (deep body n) limits (body rule)

-- the rules without that bound: between two calls a token is taken, so no more are under way than there are tokens, and one
unfoldable pub read : {N : Type 0} {Node : N → Type 0} → Bodies N Node → Limits → Rules N Node
read body limits rule = λ ts. deep body (suc (length ts)) limits rule ts
