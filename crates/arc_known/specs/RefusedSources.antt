-- Sources that are refused, each for one broken rule if nothing else is said, in the order of the numbers of the rules.
use Rattle.std.specs.Prelude.{ℕ, List, ◌++◌, codes}
use Rattle.arc_known.specs.Programs.{repeated}

-- no token begins with the byte (C99, section 6.4)
abbrev pub bad_byte : List ℕ
bad_byte = codes "int main(void) { $ }"

-- a comment without its end (C99, section 6.4.9)
abbrev pub open_comment : List ℕ
open_comment = codes "int main(void) { } /* end"

-- a text that isn't closed on its line (C99, section 6.4.5)
abbrev pub open_text : List ℕ
open_text = codes "int main(void) { printf(\"abc); }"

-- an integer with a 0 in front, which C99 reads as an octal one (section 6.4.4.1) and this compiler refuses
abbrev pub octal : List ℕ
octal = codes "int main(void) { return 07; }"

-- no known word stands after the `@`
abbrev pub directive : List ℕ
directive = codes "int main(void) { } @interfac"

-- a statement without its `;` (C99, section 6.8.6)
abbrev pub no_semicolon : List ℕ
no_semicolon = codes "int main(void) { return 1 }"

-- a body without its `}`: the end is refused
abbrev pub no_brace : List ℕ
no_brace = codes "int main(void) { return 1;"

-- a block that is nested 201 deep, where the body of the function counts as 1 (this project's own limit)
abbrev pub too_deep : List ℕ
too_deep = codes "int main(void) " ++ repeated 201 (codes "{")

-- 17 parameters (this project's own limit)
abbrev pub too_many_parameters : List ℕ
too_many_parameters = codes "int f(int a, int b, int c, int d, int e, int f, int g, int h, int i, int j, int k, int l, int m, int n, int o, int p, int q) { return 0; } int main(void) { }"

-- a second body of a function, at its name (C99, section 6.9)
abbrev pub second_body : List ℕ
second_body = codes "int f(void) { return 1; } int f(void) { return 2; } int main(void) { }"

-- a second global variable of a name, at its name (this project's own choice, where C99, section 6.9.2, takes both for one)
abbrev pub second_global : List ℕ
second_global = codes "int a; int a; int main(void) { }"

-- a superclass without an interface (OPL, "Defining a Class")
abbrev pub unknown_superclass : List ℕ
unknown_superclass = codes "@interface A : B @end @implementation A @end int main(void) { }"

-- a method that gives another kind of value than it was declared with (this project's own choice)
abbrev pub other_result : List ℕ
other_result = codes "@interface A : NSObject - (int)f; @end @implementation A - (void)f { } @end int main(void) { }"

-- a class that has no implementation, at its interface's name
abbrev pub no_implementation : List ℕ
no_implementation = codes "@interface A : NSObject @end int main(void) { }"

-- a method that changes how classes are loaded (Runtime Reference, "+load")
abbrev pub hook : List ℕ
hook = codes "@interface A : NSObject @end @implementation A + (void)load { } @end int main(void) { }"

-- no main (C99, section 5.1.2.2.1)
abbrev pub no_main : List ℕ
no_main = codes "int f(void) { return 1; }"

-- a function that is called and has no body (C99, section 6.9)
abbrev pub no_body : List ℕ
no_body = codes "int f(void); int main(void) { return f(); }"

-- Two rules are broken: no variable has this name (C99, section 6.5.1), and a format lacks its value. The first by position is reported (this project's own choice).
abbrev pub unknown_name : List ℕ
unknown_name = codes "int main(void) { return x + printf(\"%d\"); }"

-- Declarations are looked at before bodies: the second main is reported, though the unknown name stands before it (this project's own choice).
abbrev pub stages : List ℕ
stages = codes "int main(void) { return x; } int main(void) { }"

-- a message without a method (OPL, "Static Typing")
abbrev pub no_method : List ℕ
no_method = codes "@interface A : NSObject @end @implementation A @end int main(void) { [A f]; }"

-- an object where a number is wanted
abbrev pub object_as_number : List ℕ
object_as_number = codes "int main(void) { return nil; }"

-- the left side of an assignment is a number (C99, section 6.5.16)
abbrev pub number_assigned : List ℕ
number_assigned = codes "int main(void) { 1 = 2; }"

-- an object that is counted up (C99, section 6.5.2.4, for what is no number)
abbrev pub object_counted : List ℕ
object_counted = codes "int main(void) { id a = nil; a++; }"

-- a call with too few arguments (C99, section 6.5.2.2)
abbrev pub argument_count : List ℕ
argument_count = codes "int f(int n) { return n; } int main(void) { return f(); }"

-- an int where `%ld` wants a Long (C99, section 7.19.6.1)
abbrev pub format : List ℕ
format = codes "int main(void) { printf(\"%ld\", 1); }"

-- an assignment to self outside of the init methods (ARC, "self")
abbrev pub self_assigned : List ℕ
self_assigned = codes "@interface A : NSObject @end @implementation A - (void)f { self = nil; } @end int main(void) { }"

-- a `break` in no body of a loop (C99, section 6.8.6.3)
abbrev pub outside_loop : List ℕ
outside_loop = codes "int main(void) { while (0) ; break; }"

-- a private field outside of its class (OPL, "The Scope of Instance Variables")
abbrev pub private_field : List ℕ
private_field = codes "@interface A : NSObject { @private int v; } @end @implementation A @end int main(void) { A *a = nil; return a->v; }"

-- a method that gives an object and belongs to no family, as its first part goes on with a small letter (ARC, "Method families" and "Unretained return values")
abbrev pub unretained : List ℕ
unretained = codes "@interface A : NSObject - (id)copyright; @end @implementation A - (id)copyright { return nil; } @end int main(void) { }"

-- a message that ARC forbids, at its selector (ARC, "Memory management methods")
abbrev pub manual_release : List ℕ
manual_release = codes "int main(void) { id a = nil; [a release]; }"

-- and another, which only the end of an object runs (ARC, "dealloc")
abbrev pub dealloc_sent : List ℕ
dealloc_sent = codes "int main(void) { id a = nil; [a dealloc]; }"

-- init sent to self outside of the init methods (ARC, "Semantics of init")
abbrev pub init_of_self : List ℕ
init_of_self = codes "@interface A : NSObject @end @implementation A - (void)f { [self init]; } @end int main(void) { }"

-- an init method that gives an object of a class that is neither above nor below its own, at its `-` (ARC, "Method families")
abbrev pub other_class_by_init : List ℕ
other_class_by_init = codes "@interface A : NSObject @end @implementation A @end @interface B : NSObject - (A *)init; @end @implementation B - (A *)init { return nil; } @end int main(void) { }"

-- a qualifier of a number, at the variable's name (ARC, "Ownership qualification")
abbrev pub number_qualified : List ℕ
number_qualified = codes "int main(void) { __strong id a = nil; __strong int b = 0; }"
