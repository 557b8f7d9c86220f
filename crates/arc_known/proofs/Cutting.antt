-- The tokens of a source, up to its end or its first broken rule, computed: a piece at a time.
use Rattle.std.proofs.Common.{◌≡◌, ℕ, zero, suc, ◌+◌, pos, negsuc, List, [], ◌∷◌, ◌++◌, append_assoc, drop, Bool, true, false, cond, ◌||◌, nat_eq, Option, Some, None, refl, sym, ap, subst, ◌∙◌, arith}
use Rattle.std.proofs.lemmas.Bool.{eqb-true}
use Rattle.std.proofs.lemmas.List.{append-nil}
use Rattle.arc_lex.specs.declared.piece.Rule.{Rule}
use Rattle.arc_lex.specs.Source.{Cuts, done, breaks}
use Rattle.arc_lex.specs.Texts.{Part, Plain, Escape}
use Rattle.arc_lex.specs.Tokens.{Tok, Sort, Name, Integer, Character, Text, Key, At, Sign, Unused}
use Rattle.arc_lex.specs.private.Pieces.{Piece, Blank, Skip, Whole, Broken, Law, piece, text_found, text_piece, character_found, character_piece, scan}
use Rattle.arc_lex.proofs.Law.{piece_law}
use Rattle.arc_lex.proofs.Walks.{blank_cuts, skip_cuts, token_cuts}

-- ---- texts

abbrev pub in_front : {A : Type 0} → A → Option (List A) → Option (List A)
in_front a None = None
in_front a (Some others) = Some (a ∷ others)

abbrev pub byte_step : (escaped ends_line closes escapes : Bool) → ℕ → (Bool → Option (List Part)) → Option (List Part)
byte_step escaped true closes escapes b later = None
byte_step true false closes escapes b later = in_front (Escape b) (later false)
byte_step false false true escapes b later = Some []
byte_step false false false true b later = later true
byte_step false false false false b later = in_front (Plain b) (later false)

-- what `scan` finds, with one call at each byte: it computes both of its own, and so all of the rest of the source in each way
abbrev pub parts_of : (quote : ℕ) → List ℕ → (escaped : Bool) → Option (List Part)
parts_of quote [] = λ escaped. None
parts_of quote (b ∷ bs) = λ escaped. byte_step escaped (nat_eq b 10) (nat_eq b quote) (nat_eq b 92) b (parts_of quote bs)

-- parts, and those that were found after them
abbrev joined : List Part → Option (List Part) → Option (List Part)
joined ps None = None
joined ps (Some qs) = Some (ps ++ qs)

joined_one : (ps : List Part) (p : Part) (found : Option (List Part)) → joined (ps ++ p ∷ []) found ≡ joined ps (in_front p found)
joined_one ps p None = refl
joined_one ps p (Some qs) = ap Some (append_assoc ps (p ∷ []) qs)

scanned : (quote : ℕ) (escaped : Bool) (ps : List Part) (bs : List ℕ) → scan quote escaped ps bs ≡ joined ps (parts_of quote bs escaped)
scanned quote true ps [] = refl
scanned quote false ps [] = refl
scanned quote true ps (b ∷ bs) = go (nat_eq b 10) (scanned quote false (ps ++ Escape b ∷ []) bs)
  where
    go : (n : Bool) → scan quote false (ps ++ Escape b ∷ []) bs ≡ joined (ps ++ Escape b ∷ []) (parts_of quote bs false)
        → cond n None (scan quote false (ps ++ Escape b ∷ []) bs) ≡ joined ps (byte_step true n (nat_eq b quote) (nat_eq b 92) b (parts_of quote bs))
    go true later = refl
    go false later = later ∙ joined_one ps (Escape b) (parts_of quote bs false)
scanned quote false ps (b ∷ bs) = go (nat_eq b 10) (nat_eq b quote) (nat_eq b 92) (scanned quote true ps bs) (scanned quote false (ps ++ Plain b ∷ []) bs)
  where
    go : (n q s : Bool) → scan quote true ps bs ≡ joined ps (parts_of quote bs true) → scan quote false (ps ++ Plain b ∷ []) bs ≡ joined (ps ++ Plain b ∷ []) (parts_of quote bs false)
        → cond n None (cond q (Some ps) (cond s (scan quote true ps bs) (scan quote false (ps ++ Plain b ∷ []) bs))) ≡ joined ps (byte_step false n q s b (parts_of quote bs))
    go true q s escaped plain = refl
    go false true s escaped plain = ap Some (sym (append-nil ps))
    go false false true escaped plain = escaped
    go false false false escaped plain = plain ∙ joined_one ps (Plain b) (parts_of quote bs false)

all_scanned : (quote : ℕ) (bs : List ℕ) → scan quote false [] bs ≡ parts_of quote bs false
all_scanned quote bs = scanned quote false [] bs ∙ nothing_before (parts_of quote bs false)
  where
    nothing_before : (found : Option (List Part)) → joined [] found ≡ found
    nothing_before None = refl
    nothing_before (Some ps) = refl

-- ---- pieces

abbrev pub by_quotes : (double single : Bool) → (starts : Bool) → ℕ → List ℕ → Piece
by_quotes true single starts b bs = text_found (parts_of 34 bs false)
by_quotes false true starts b bs = character_found (parts_of 39 bs false)
by_quotes false false starts b bs = piece starts (b ∷ bs)

-- the piece at the front
abbrev pub front : (starts : Bool) → ℕ → List ℕ → Piece
front starts b bs = by_quotes (nat_eq b 34) (nat_eq b 39) starts b bs

text_front : (starts : Bool) (bs : List ℕ) → text_found (parts_of 34 bs false) ≡ piece starts (34 ∷ bs)
unfolding piece text_piece
text_front starts bs = sym (ap text_found (all_scanned 34 bs))

character_front : (starts : Bool) (bs : List ℕ) → character_found (parts_of 39 bs false) ≡ piece starts (39 ∷ bs)
unfolding piece character_piece
character_front starts bs = sym (ap character_found (all_scanned 39 bs))

front_is : (starts : Bool) (b : ℕ) (bs : List ℕ) → front starts b bs ≡ piece starts (b ∷ bs)
front_is starts b bs = go (nat_eq b 34) refl (nat_eq b 39) refl
  where
    go : (q : Bool) → nat_eq b 34 ≡ q → (c : Bool) → nat_eq b 39 ≡ c → by_quotes q c starts b bs ≡ piece starts (b ∷ bs)
    go true e c f = subst (λ d. text_found (parts_of 34 bs false) ≡ piece starts (d ∷ bs)) (sym (eqb-true b 34 e)) (text_front starts bs)
    go false e true f = subst (λ d. character_found (parts_of 39 bs false) ≡ piece starts (d ∷ bs)) (sym (eqb-true b 39 f)) (character_front starts bs)
    go false e false f = refl

front_law : (starts : Bool) (b : ℕ) (bs : List ℕ) → Law starts (b ∷ bs) (front starts b bs)
front_law starts b bs = subst (Law starts (b ∷ bs)) (sym (front_is starts b bs)) (piece_law starts (b ∷ bs) (omega arith))

-- ---- values that are computed once, before they are used

abbrev pub with_number : {A : Type 0} → ℕ → (ℕ → A) → A
with_number zero go = go zero
with_number (suc n) go = go (suc n)

abbrev pub with_bytes : {A : Type 0} → List ℕ → (List ℕ → A) → A
with_bytes [] go = go []
with_bytes (b ∷ bs) go = with_number b (λ c. with_bytes bs (λ cs. go (c ∷ cs)))

abbrev pub with_sort : {A : Type 0} → Sort → (Sort → A) → A
with_sort (Name bytes) go = with_bytes bytes (λ bs. go (Name bs))
with_sort (Text bytes) go = with_bytes bytes (λ bs. go (Text bs))
with_sort (Integer (pos n) suffixed) go = with_number n (λ m. go (Integer (pos m) suffixed))
with_sort (Character byte) go = with_number byte (λ b. go (Character b))
with_sort s go = go s

number_is : {A : Type 0} (n : ℕ) (go : ℕ → A) → with_number n go ≡ go n
number_is zero go = refl
number_is (suc n) go = refl

bytes_are : {A : Type 0} (bs : List ℕ) (go : List ℕ → A) → with_bytes bs go ≡ go bs
bytes_are [] go = refl
bytes_are (b ∷ bs) go = number_is b (λ c. with_bytes bs (λ cs. go (c ∷ cs))) ∙ bytes_are bs (λ cs. go (b ∷ cs))

sort_is : {A : Type 0} (s : Sort) (go : Sort → A) → with_sort s go ≡ go s
sort_is (Name bytes) go = bytes_are bytes (λ bs. go (Name bs))
sort_is (Text bytes) go = bytes_are bytes (λ bs. go (Text bs))
sort_is (Integer (pos n) suffixed) go = number_is n (λ m. go (Integer (pos m) suffixed))
sort_is (Integer (negsuc n) suffixed) go = refl
sort_is (Character byte) go = number_is byte (λ b. go (Character b))
sort_is (Key word) go = refl
sort_is (At word) go = refl
sort_is (Sign mark) go = refl
sort_is Unused go = refl

-- ---- tokens, up to the end or to the first place where a rule is broken

-- what a source is cut into, if it has no more pieces than were allowed
pub data Found : Type 0 where
  too_many : Found
  in_pieces : List Tok → Option (ℕ × Rule) → Found

abbrev pub token_before : Tok → Found → Found
token_before t too_many = too_many
token_before t (in_pieces ts broken) = in_pieces (t ∷ ts) broken

-- what follows from a place on, where `starts` says whether only blanks stand before it on its line
abbrev pub Later : Type 0
Later = (at : ℕ) → (starts : Bool) → List ℕ → Found

abbrev pub next : Later → ℕ → Bool → List ℕ → Piece → Found
next go at starts bytes (Blank newline) = with_number (at + 1) (λ later. go later (newline || starts) (drop 1 bytes))
next go at starts bytes (Skip n) = with_number (at + n) (λ later. go later false (drop n bytes))
next go at starts bytes (Whole s n) =
    with_sort s (λ sort. with_number (at + n) (λ to. token_before (record { sort = sort; from = at; to = to }) (go to false (drop n bytes))))
next go at starts bytes (Broken rule) = in_pieces [] (Some (at, rule))

whole_is : (go : Later) (at : ℕ) (starts : Bool) (bytes : List ℕ) (s : Sort) (n : ℕ)
    → next go at starts bytes (Whole s n) ≡ token_before (record { sort = s; from = at; to = at + n }) (go (at + n) false (drop n bytes))
whole_is go at starts bytes s n = sort_is s (λ sort. with_number (at + n) (λ to. token_before (record { sort = sort; from = at; to = to }) (go to false (drop n bytes))))
    ∙ number_is (at + n) (λ to. token_before (record { sort = s; from = at; to = to }) (go to false (drop n bytes)))

-- what is found from a place on, in at most so many pieces
abbrev pub found_in : (most : ℕ) → Later
found_in zero at starts bytes = too_many
found_in (suc most) at starts [] = in_pieces [] None
found_in (suc most) at starts (b ∷ bs) = next (λ later first rest. found_in most later first rest) at starts (b ∷ bs) (front starts b bs)

-- what is found is a cutting
abbrev Is : ℕ → Bool → List ℕ → Found → Type 0
Is at starts bytes too_many = Unit {0}
Is at starts bytes (in_pieces ts broken) = Cuts at starts bytes ts broken

pub cuts : (most at : ℕ) (starts : Bool) (bytes : List ℕ) (ts : List Tok) (broken : Option (ℕ × Rule)) → found_in most at starts bytes ≡ in_pieces ts broken → Cuts at starts bytes ts broken
cuts zero at starts bytes ts broken e = cc
cuts (suc most) at starts [] ts broken e = subst (Is at starts []) e (done at starts)
cuts (suc most) at starts (b ∷ bs) ts broken e = go (front starts b bs) (front_law starts b bs) e (λ place first rest others end k. cuts most place first rest others end k)
  where
    All : Type 0
    All = (place : ℕ) (first : Bool) (rest : List ℕ) (others : List Tok) (end : Option (ℕ × Rule)) → found_in most place first rest ≡ in_pieces others end → Cuts place first rest others end

    after : All → (n : ℕ) (first : Bool) (rest : List ℕ) → with_number (at + n) (λ place. found_in most place first rest) ≡ in_pieces ts broken → Cuts (at + n) first rest ts broken
    after all n first rest f = all (at + n) first rest ts broken (sym (number_is (at + n) (λ place. found_in most place first rest)) ∙ f)

    go : (p : Piece) → Law starts (b ∷ bs) p → next (λ place first rest. found_in most place first rest) at starts (b ∷ bs) p ≡ in_pieces ts broken → All → Cuts at starts (b ∷ bs) ts broken
    go (Blank newline) law f all = blank_cuts at starts (b ∷ bs) bs ts broken newline law refl (after all 1 (newline || starts) bs f)
    go (Skip n) law f all = skip_cuts at starts (b ∷ bs) _ ts broken n refl (after all n false (drop n (b ∷ bs)) f) law
    go (Broken rule) law f all = subst (Is at starts (b ∷ bs)) f (breaks at starts (b ∷ bs) rule law)
    go (Whole s n) law f all =
        first (found_in most (at + n) false (drop n (b ∷ bs))) refl (sym (whole_is (λ place first rest. found_in most place first rest) at starts (b ∷ bs) s n) ∙ f)
      where
        first : (found : Found) → found_in most (at + n) false (drop n (b ∷ bs)) ≡ found → token_before (record { sort = s; from = at; to = at + n }) found ≡ in_pieces ts broken
            → Cuts at starts (b ∷ bs) ts broken
        first too_many k f = cc
        first (in_pieces others end) k f = subst (Is at starts (b ∷ bs)) f (token_cuts at starts (b ∷ bs) _ others end n refl (all (at + n) false (drop n (b ∷ bs)) others end k) s law)
