use Rattle.std.proofs.Common.{refl}
use Rattle.arc_known.specs.RefusedSources as refused
use Rattle.arc_known.proofs.Reading as by
use Rattle.arc_known.proofs.Reading.{reading}
use Rattle.arc_known.proofs.law.refusals.Goals as goal

pub returns-clause-bad_byte : goal.returns-clause-bad_byte
unfolding reading
returns-clause-bad_byte c = by.refused refused.bad_byte 1 17 refl refl

pub returns-clause-open_comment : goal.returns-clause-open_comment
unfolding reading
returns-clause-open_comment c = by.refused refused.open_comment 2 19 refl refl

pub returns-clause-open_text : goal.returns-clause-open_text
unfolding reading
returns-clause-open_text c = by.refused refused.open_text 3 24 refl refl

pub returns-clause-octal : goal.returns-clause-octal
unfolding reading
returns-clause-octal c = by.refused refused.octal 4 24 refl refl

pub returns-clause-directive : goal.returns-clause-directive
unfolding reading
returns-clause-directive c = by.refused refused.directive 5 19 refl refl

pub returns-clause-no_semicolon : goal.returns-clause-no_semicolon
unfolding reading
returns-clause-no_semicolon c = by.refused refused.no_semicolon 11 26 refl refl

pub returns-clause-no_brace : goal.returns-clause-no_brace
unfolding reading
returns-clause-no_brace c = by.refused refused.no_brace 11 26 refl refl

pub returns-clause-too_deep : goal.returns-clause-too_deep
unfolding reading
returns-clause-too_deep c = by.refused refused.too_deep 12 215 refl refl

pub returns-clause-second_body : goal.returns-clause-second_body
unfolding reading
returns-clause-second_body c = by.refused refused.second_body 21 30 refl refl

pub returns-clause-second_global : goal.returns-clause-second_global
unfolding reading
returns-clause-second_global c = by.refused refused.second_global 21 11 refl refl

pub returns-clause-unknown_superclass : goal.returns-clause-unknown_superclass
unfolding reading
returns-clause-unknown_superclass c = by.refused refused.unknown_superclass 22 15 refl refl

pub returns-clause-other_result : goal.returns-clause-other_result
unfolding reading
returns-clause-other_result c = by.refused refused.other_result 24 57 refl refl

pub returns-clause-no_implementation : goal.returns-clause-no_implementation
unfolding reading
returns-clause-no_implementation c = by.refused refused.no_implementation 26 11 refl refl

pub returns-clause-hook : goal.returns-clause-hook
unfolding reading
returns-clause-hook c = by.refused refused.hook 28 47 refl refl

pub returns-clause-no_main : goal.returns-clause-no_main
unfolding reading
returns-clause-no_main c = by.refused refused.no_main 29 0 refl refl

pub returns-clause-no_body : goal.returns-clause-no_body
unfolding reading
returns-clause-no_body c = by.refused refused.no_body 30 37 refl refl

pub returns-clause-unknown_name : goal.returns-clause-unknown_name
unfolding reading
returns-clause-unknown_name c = by.refused refused.unknown_name 41 24 refl refl

pub returns-clause-stages : goal.returns-clause-stages
unfolding reading
returns-clause-stages c = by.refused refused.stages 21 33 refl refl

pub returns-clause-no_method : goal.returns-clause-no_method
unfolding reading
returns-clause-no_method c = by.refused refused.no_method 42 72 refl refl

pub returns-clause-object_as_number : goal.returns-clause-object_as_number
unfolding reading
returns-clause-object_as_number c = by.refused refused.object_as_number 43 24 refl refl

pub returns-clause-number_assigned : goal.returns-clause-number_assigned
unfolding reading
returns-clause-number_assigned c = by.refused refused.number_assigned 44 19 refl refl

pub returns-clause-object_counted : goal.returns-clause-object_counted
unfolding reading
returns-clause-object_counted c = by.refused refused.object_counted 44 30 refl refl

pub returns-clause-argument_count : goal.returns-clause-argument_count
unfolding reading
returns-clause-argument_count c = by.refused refused.argument_count 45 51 refl refl

pub returns-clause-too_many_parameters : goal.returns-clause-too_many_parameters
unfolding reading
returns-clause-too_many_parameters c = by.refused refused.too_many_parameters 45 4 refl refl

pub returns-clause-format : goal.returns-clause-format
unfolding reading
returns-clause-format c = by.refused refused.format 46 17 refl refl

pub returns-clause-self_assigned : goal.returns-clause-self_assigned
unfolding reading
returns-clause-self_assigned c = by.refused refused.self_assigned 47 64 refl refl

pub returns-clause-outside_loop : goal.returns-clause-outside_loop
unfolding reading
returns-clause-outside_loop c = by.refused refused.outside_loop 48 29 refl refl

pub returns-clause-private_field : goal.returns-clause-private_field
unfolding reading
returns-clause-private_field c = by.refused refused.private_field 49 111 refl refl

pub returns-clause-manual_release : goal.returns-clause-manual_release
unfolding reading
returns-clause-manual_release c = by.refused refused.manual_release 61 32 refl refl

pub returns-clause-dealloc_sent : goal.returns-clause-dealloc_sent
unfolding reading
returns-clause-dealloc_sent c = by.refused refused.dealloc_sent 62 32 refl refl

pub returns-clause-init_of_self : goal.returns-clause-init_of_self
unfolding reading
returns-clause-init_of_self c = by.refused refused.init_of_self 63 65 refl refl

pub returns-clause-unretained : goal.returns-clause-unretained
unfolding reading
returns-clause-unretained c = by.refused refused.unretained 60 24 refl refl

pub returns-clause-other_class_by_init : goal.returns-clause-other_class_by_init
unfolding reading
returns-clause-other_class_by_init c = by.refused refused.other_class_by_init 66 76 refl refl

pub returns-clause-number_qualified : goal.returns-clause-number_qualified
unfolding reading
returns-clause-number_qualified c = by.refused refused.number_qualified 67 51 refl refl
