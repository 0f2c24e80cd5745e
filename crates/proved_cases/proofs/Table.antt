-- The claim over 01's cases, and demand 3 at one of them, sent plain and encoded, by computation: every definition is opened.
use Prim.Native.Nat.{ℕ, ◌≤◌}
use mathlib.Core.Path.{◌≡◌, refl, sym, ap, ◌∙◌}
use mathlib.Core.Bool.{true}
use mathlib.Core.List.Memᴰ
use mathlib.Core.List.{List, [], ◌∷◌, map}
use borrow.Author.Tests.{leb-true}
use lib.Dec.{leb}
use lib.ListN.{length}
use Rattle.octets.specs.Basics.{octets}
use Rattle.octets.specs.Limits.{most_text}
use Rattle.octets.specs.Answers.{accepted}
use Rattle.octets.proofs.Answers.{accepted-same}
use Rattle.types.specs.Table.{defaults}
use Rattle.types.specs.Rows.{table_of, Keeps}
use Rattle.json_text.specs.Tree.{str}
use Rattle.json_text.specs.Print.{print}
use Rattle.content.specs.Line.{Param, line_of}
use Rattle.content.specs.Lines.{lines_of}
use Rattle.conversion_theory.specs.Tree.{property, Component, component, leaf}
use Rattle.conversion_theory.specs.Jcal.{jcal_of}
use Rattle.conversion_theory.specs.ToJcal.{reading}
use Rattle.conversion_theory.specs.ToIcal.{to_ical}
use Rattle.conversion_theory.specs.Claim.{excepted, those, Side, older, newer, side, Agree}
use Rattle.conversion_theory.proofs.Routes.{writes-once}
use Rattle.conversion_theory.proofs.Demand3.{tables_agree}
use Rattle.proved_cases.specs.Cases.{calendar, jcal, no_rows, added, sent, unlisted_jcal, listed_jcal, encoded, encoded_jcal, AllHold}
use Rattle.proved_cases.specs.Ages.{grown, newer_reading, Ages, returning, PlainAges, EncodedAges}

-- the older's reading of X-TROUGH
abbrev unread : List Param → List ℕ → Component
unread params value = component (octets "vcalendar") (property (octets "x-trough") params (octets "unknown") (str value ∷ []) ∷ []) leaf

abbrev encoding : Param
encoding = record { name = octets "encoding"; values = octets "BASE64" ∷ [] }

-- one for each side
record Each (P : Side → Type 0) : Type 0 where
  of-older : P older
  of-newer : P newer

each : {P : Side → Type 0} → P older → P newer → Each P
each o n = record { of-older = o; of-newer = n }

at_side : {P : Side → Type 0} → Each P → (a : Side) → P a
at_side h older = h.of-older
at_side h newer = h.of-newer

record Computed (line : List ℕ) (held : Component) (has : Side → List ℕ) (back : Side → Side → List ℕ) : Type 0 where
  reads : reading added (calendar line) ≡ accepted newer_reading
  older-reads : reading no_rows (calendar line) ≡ accepted held
  excepts : those (excepted defaults grown) (map line_of (lines_of (calendar line))) ≡ line_of line ∷ []
  texts : Each (λ a. print (jcal_of (side held newer_reading a)) ≡ jcal (has a))
  short : Each (λ a. leb (length (jcal (has a))) most_text ≡ true)
  returns : Each (λ a. Each (λ b. to_ical (side no_rows added b) (jcal (has a)) ≡ accepted (calendar (back a b))))

record Tables : Type 0 where
  old : table_of no_rows ≡ accepted defaults
  new : table_of added ≡ accepted grown

computed : AllHold × Tables × Computed sent (unread [] (octets "20240229T060000Z")) (side unlisted_jcal listed_jcal) (returning sent)
    × Computed encoded (unread (encoding ∷ []) (octets "MjAyNDAyMjlUMDYwMDAwWg==")) (side encoded_jcal listed_jcal) (returning encoded)
unfolding Rattle.octets.specs.Answers.then Rattle.octets.specs.Answers.or_else Rattle.octets.specs.Answers.unless Rattle.octets.specs.Answers.zeroed Rattle.octets.specs.Answers.answer Rattle.octets.specs.Answers.outcome Rattle.octets.specs.Answers.finished Rattle.octets.specs.Basics.all Rattle.octets.specs.Basics.any Rattle.octets.specs.Basics.filled Rattle.octets.specs.Basics.single Rattle.octets.specs.Basics.same Rattle.octets.specs.Basics.among Rattle.octets.specs.Basics.twice Rattle.octets.specs.Classes.between Rattle.octets.specs.Classes.is_digit Rattle.octets.specs.Classes.is_upper Rattle.octets.specs.Classes.is_lower Rattle.octets.specs.Classes.is_letter Rattle.octets.specs.Classes.name_octet Rattle.octets.specs.Classes.is_name Rattle.octets.specs.Classes.lower_name_octet Rattle.octets.specs.Classes.is_lower_name Rattle.octets.specs.Classes.is_control Rattle.octets.specs.Classes.plain_octet Rattle.octets.specs.Classes.text_octet Rattle.octets.specs.Classes.is_space Rattle.octets.specs.Classes.upper_octet Rattle.octets.specs.Classes.lower_octet Rattle.octets.specs.Classes.upper Rattle.octets.specs.Classes.lower Rattle.octets.specs.Classes.same_name Rattle.octets.specs.Classes.hex_digit Rattle.octets.specs.Decimal.digits Rattle.octets.specs.Decimal.value_from Rattle.octets.specs.Decimal.value_of Rattle.octets.specs.Decimal.figures Rattle.octets.specs.Decimal.is_sign Rattle.octets.specs.Decimal.has_sign Rattle.octets.specs.Decimal.minus Rattle.octets.specs.Decimal.unsigned Rattle.octets.specs.Decimal.trim Rattle.octets.specs.Decimal.minus_if Rattle.octets.specs.Decimal.decimal Rattle.octets.specs.Decimal.integer_text Rattle.octets.specs.Limits.most_text Rattle.octets.specs.Limits.most_levels Rattle.octets.specs.Limits.most_open Rattle.octets.specs.Limits.most_rows Rattle.octets.specs.Limits.most_columns Rattle.octets.specs.Limits.most_integer Rattle.octets.specs.Limits.last_year Rattle.octets.specs.Optional.map? Rattle.octets.specs.Optional.both? Rattle.octets.specs.Optional.then? Rattle.octets.specs.Optional.or? Rattle.octets.specs.Optional.is_some Rattle.octets.specs.Optional.when Rattle.octets.specs.Optional.guard Rattle.octets.specs.Optional.holds Rattle.octets.specs.Optional.given Rattle.octets.specs.Optional.each Rattle.octets.specs.Pieces.onto Rattle.octets.specs.Pieces.cut Rattle.octets.specs.Pieces.split Rattle.octets.specs.Pieces.joined Rattle.octets.specs.Utf8.lead Rattle.octets.specs.Utf8.due Rattle.octets.specs.Utf8.due_after Rattle.octets.specs.Utf8.is_start Rattle.octets.specs.Utf8.utf8 Rattle.octets.specs.Utf8.clean Rattle.calendar.specs.Dates.day_in Rattle.calendar.specs.Dates.is_clock Rattle.calendar.specs.Dates.clock_in Rattle.calendar.specs.Dates.date_of Rattle.calendar.specs.Dates.date_is Rattle.calendar.specs.Dates.date_text Rattle.calendar.specs.Dates.time_of Rattle.calendar.specs.Dates.time_is Rattle.calendar.specs.Dates.time_text Rattle.calendar.specs.Dates.moment_in Rattle.calendar.specs.Dates.date_time_of Rattle.calendar.specs.Dates.date_time_is Rattle.calendar.specs.Dates.date_time_text Rattle.calendar.specs.Dates.moment_of Rattle.calendar.specs.Dates.moment_is Rattle.calendar.specs.Dates.moment_text Rattle.calendar.specs.Dates.offset_in Rattle.calendar.specs.Dates.offset_of Rattle.calendar.specs.Dates.offset_is Rattle.calendar.specs.Dates.offset_text Rattle.calendar.specs.Durations.spans Rattle.calendar.specs.Durations.letters Rattle.calendar.specs.Durations.is_unit Rattle.calendar.specs.Durations.unit_placed Rattle.calendar.specs.Durations.placed Rattle.calendar.specs.Durations.duration_is Rattle.calendar.specs.Durations.duration_of Rattle.calendar.specs.Durations.forward_is Rattle.calendar.specs.Durations.period_end_of Rattle.calendar.specs.Durations.period_end_is Rattle.calendar.specs.Durations.period_end_text Rattle.calendar.specs.Forms.takes Rattle.calendar.specs.Forms.fits Rattle.calendar.specs.Forms.kept Rattle.calendar.specs.Forms.extended Rattle.calendar.specs.Forms.fits_either Rattle.calendar.specs.Forms.extended_either Rattle.calendar.specs.Forms.keeps Rattle.calendar.specs.Forms.basic Rattle.calendar.specs.Forms.date_form Rattle.calendar.specs.Forms.clock_form Rattle.calendar.specs.Forms.utc Rattle.calendar.specs.Forms.time_form Rattle.calendar.specs.Forms.date_time_form Rattle.calendar.specs.Forms.offset_form Rattle.calendar.specs.Forms.number_at Rattle.calendar.specs.Gregorian.leap_day Rattle.calendar.specs.Gregorian.months Rattle.calendar.specs.Gregorian.month_days Rattle.calendar.specs.Gregorian.year_days Rattle.calendar.specs.Gregorian.is_day Rattle.calendar.specs.Gregorian.before_year Rattle.calendar.specs.Gregorian.sum Rattle.calendar.specs.Gregorian.before_month Rattle.calendar.specs.Gregorian.day_number Rattle.calendar.specs.Gregorian.day_count Rattle.calendar.specs.Gregorian.in_months Rattle.calendar.specs.Gregorian.in_years Rattle.calendar.specs.Gregorian.date_at Rattle.calendar.specs.Gregorian.month_number Rattle.calendar.specs.Gregorian.weekday_at Rattle.calendar.specs.Gregorian.week_at Rattle.calendar.specs.Moments.kind_of Rattle.calendar.specs.Moments.moment_from Rattle.calendar.specs.Moments.read_moment Rattle.calendar.specs.Moments.is_moment Rattle.calendar.specs.Moments.hour_number Rattle.calendar.specs.Moments.at_hour Rattle.calendar.specs.Moments.moved Rattle.calendar.specs.Moments.second_number Rattle.calendar.specs.Moments.not_behind Rattle.calendar.specs.Moments.kind_place Rattle.calendar.specs.Moments.same_kind Rattle.calendar.specs.Recurrence.keys Rattle.calendar.specs.Recurrence.key_in Rattle.calendar.specs.Recurrence.key_named Rattle.calendar.specs.Recurrence.frequencies Rattle.calendar.specs.Recurrence.weekdays Rattle.calendar.specs.Recurrence.word_of Rattle.calendar.specs.Recurrence.until_of Rattle.calendar.specs.Recurrence.count_of Rattle.calendar.specs.Recurrence.number_of Rattle.calendar.specs.Recurrence.ordinal_of Rattle.calendar.specs.Recurrence.day_of Rattle.calendar.specs.Recurrence.item_of Rattle.calendar.specs.Recurrence.several Rattle.calendar.specs.Recurrence.keyed_part Rattle.calendar.specs.Recurrence.part_of Rattle.calendar.specs.Recurrence.names Rattle.calendar.specs.Recurrence.is_rule Rattle.calendar.specs.Recurrence.parts_of Rattle.calendar.specs.Recurrence.part_text Rattle.calendar.specs.Recurrence.parts_text Rattle.calendar.specs.Rules.first_of Rattle.calendar.specs.Rules.value_named Rattle.calendar.specs.Rules.frequency_of Rattle.calendar.specs.Rules.weekday_of Rattle.calendar.specs.Rules.until_moment Rattle.calendar.specs.Rules.end_of Rattle.calendar.specs.Rules.by_parts Rattle.calendar.specs.Rules.values_named Rattle.calendar.specs.Rules.weekday_place Rattle.calendar.specs.Rules.no_days Rattle.calendar.specs.Rules.with_day Rattle.calendar.specs.Rules.with_month_day Rattle.calendar.specs.Rules.gathered Rattle.calendar.specs.Rules.days_of Rattle.calendar.specs.Rules.rule_from Rattle.calendar.specs.Rules.read_rule Rattle.calendar.specs.Sets.has Rattle.calendar.specs.Sets.with Rattle.recurrence_set.specs.Lists.numbers_from Rattle.recurrence_set.specs.Lists.only Rattle.recurrence_set.specs.Lists.while Rattle.recurrence_set.specs.Lists.due Rattle.recurrence_set.specs.Meets.is_hourly Rattle.recurrence_set.specs.Meets.place_of Rattle.recurrence_set.specs.Meets.places_of Rattle.recurrence_set.specs.Meets.on_day Rattle.recurrence_set.specs.Meets.moment_at Rattle.recurrence_set.specs.Meets.counts Rattle.recurrence_set.specs.Meets.every_meets Rattle.recurrence_set.specs.Meets.weekday_serves Rattle.recurrence_set.specs.Meets.weekly_meets Rattle.recurrence_set.specs.Meets.ordinal_serves Rattle.recurrence_set.specs.Meets.month_day_serves Rattle.recurrence_set.specs.Meets.day_serves Rattle.recurrence_set.specs.Meets.monthly_meets Rattle.recurrence_set.specs.Meets.meets_by Rattle.recurrence_set.specs.Meets.moments_by Rattle.recurrence_set.specs.Meets.moments_of Rattle.recurrence_set.specs.Meets.ended Rattle.recurrence_set.specs.Meets.listed Rattle.stop_list.specs.Stops.start_of Rattle.stop_list.specs.Stops.frequency_served Rattle.stop_list.specs.Stops.other_by Rattle.stop_list.specs.Stops.days_served Rattle.stop_list.specs.Stops.end_served Rattle.stop_list.specs.Stops.served Rattle.stop_list.specs.Stops.list_of Rattle.stop_list.specs.Stops.list_answer Rattle.stop_list.specs.Stops.list_outcome Rattle.stops_page.specs.Printing.three_shown Rattle.stops_page.specs.Printing.date_shown Rattle.stops_page.specs.Printing.clock_shown Rattle.stops_page.specs.Printing.time_shown Rattle.stops_page.specs.Printing.moment_shown Rattle.stops_page.specs.Printing.stop_shown Rattle.stops_page.specs.Printing.stops_shown Rattle.stops_page.specs.Printing.head_shown Rattle.stops_page.specs.Printing.answer_shown Rattle.stops_page.specs.Printing.bad_input Rattle.stops_page.specs.Printing.most_stops Rattle.stops_page.specs.Printing.most_of Rattle.stops_page.specs.Printing.shown_for Rattle.stops_page.specs.Printing.chop Rattle.stops_page.specs.Printing.input_lines Rattle.stops_page.specs.Printing.lines_shown Rattle.stops_page.specs.Printing.printed Rattle.types.specs.Codes.type_names Rattle.types.specs.Codes.type_name Rattle.types.specs.Codes.place_from Rattle.types.specs.Codes.code_named Rattle.types.specs.Codes.type_splits Rattle.types.specs.Rows.octet_of Rattle.types.specs.Rows.frame_of Rattle.types.specs.Rows.row_octet Rattle.types.specs.Rows.is_row Rattle.types.specs.Rows.entry_of Rattle.types.specs.Rows.row_of Rattle.types.specs.Rows.ended_lines Rattle.types.specs.Rows.rows_of Rattle.types.specs.Rows.may_join Rattle.types.specs.Rows.table_of Rattle.types.specs.Table.names_of Rattle.types.specs.Table.find Rattle.types.specs.Table.defaults Rattle.json_text.specs.Numbers.is_exponent Rattle.json_text.specs.Numbers.is_plus_minus Rattle.json_text.specs.Numbers.behind_int Rattle.json_text.specs.Numbers.first_digit Rattle.json_text.specs.Numbers.advance Rattle.json_text.specs.Numbers.is_beyond Rattle.json_text.specs.Numbers.number_ends Rattle.json_text.specs.Numbers.scan Rattle.json_text.specs.Numbers.number_read Rattle.json_text.specs.Print.escaped Rattle.json_text.specs.Print.quoted Rattle.json_text.specs.Print.print_string Rattle.json_text.specs.Print.print_key Rattle.json_text.specs.Print.print Rattle.json_text.specs.Print.first_item Rattle.json_text.specs.Print.more_items Rattle.json_text.specs.Print.first_member Rattle.json_text.specs.Print.more_members Rattle.json_text.specs.Print.values_json Rattle.json_text.specs.Reader.opening_of Rattle.json_text.specs.Reader.separator_of Rattle.json_text.specs.Reader.colon Rattle.json_text.specs.Reader.member_key Rattle.json_text.specs.Reader.pair Rattle.json_text.specs.Reader.members_from Rattle.json_text.specs.Reader.after_element Rattle.json_text.specs.Reader.on_mark Rattle.json_text.specs.Reader.elements_up_to Rattle.json_text.specs.Reader.elements_from Rattle.json_text.specs.Reader.bracketed Rattle.json_text.specs.Reader.value_by Rattle.json_text.specs.Reader.value_with Rattle.json_text.specs.Reader.value_within Rattle.json_text.specs.Reader.nothing_behind Rattle.json_text.specs.Reader.parse_text Rattle.json_text.specs.Reads.skip_space Rattle.json_text.specs.Reads.literal Rattle.json_text.specs.Strings.escape_of Rattle.json_text.specs.Strings.hex1 Rattle.json_text.specs.Strings.hex4 Rattle.json_text.specs.Strings.utf8_of Rattle.json_text.specs.Strings.low_of Rattle.json_text.specs.Strings.low_surrogate Rattle.json_text.specs.Strings.partner Rattle.json_text.specs.Strings.unit Rattle.json_text.specs.Strings.unicode Rattle.json_text.specs.Strings.escape Rattle.json_text.specs.Strings.piece Rattle.json_text.specs.Strings.string_pieces Rattle.json_text.specs.Strings.string Rattle.json_text.specs.Tree.items_of Rattle.json_text.specs.Tree.list_of_items Rattle.json_text.specs.Tree.string? Rattle.json_text.specs.Tree.number? Rattle.json_text.specs.Tree.boolean? Rattle.json_text.specs.Tree.array? Rattle.json_text.specs.Tree.object? Rattle.json_text.specs.Tree.octets_of Rattle.json_text.specs.Tree.elements Rattle.json_text.specs.Tree.element Rattle.json_text.specs.Tree.members Rattle.tape.specs.Sound.has_lone Rattle.tape.specs.Sound.has_key Rattle.tape.specs.Sound.distinct_keys Rattle.tape.specs.Sound.sound Rattle.tape.specs.Sound.sound_items Rattle.tape.specs.Sound.sound_members Rattle.content.specs.Carets.decoded_octet Rattle.content.specs.Carets.caret_after Rattle.content.specs.Carets.decoded_from Rattle.content.specs.Carets.decoded Rattle.content.specs.Carets.encoded_octet Rattle.content.specs.Carets.encoded Rattle.content.specs.Fold.width Rattle.content.specs.Fold.breaks Rattle.content.specs.Fold.folded_octet Rattle.content.specs.Fold.next_column Rattle.content.specs.Fold.fold_from Rattle.content.specs.Fold.column_after Rattle.content.specs.Fold.text_of Rattle.content.specs.Form.has_bare Rattle.content.specs.Form.quote_free Rattle.content.specs.Form.quote_last Rattle.content.specs.Form.in_quotes Rattle.content.specs.Form.value_formed Rattle.content.specs.Form.param_formed Rattle.content.specs.Form.head_formed Rattle.content.specs.Form.formed Rattle.content.specs.Form.content_lines Rattle.content.specs.Line.quote_after Rattle.content.specs.Line.bare Rattle.content.specs.Line.before Rattle.content.specs.Line.behind Rattle.content.specs.Line.pieces Rattle.content.specs.Line.front Rattle.content.specs.Line.unquote Rattle.content.specs.Line.param_value Rattle.content.specs.Line.param_of Rattle.content.specs.Line.headed Rattle.content.specs.Line.line_of Rattle.content.specs.Lines.newlines Rattle.content.specs.Lines.is_blank Rattle.content.specs.Lines.folds Rattle.content.specs.Lines.unfolded_from Rattle.content.specs.Lines.cut_lines Rattle.content.specs.Lines.lines_of Rattle.content.specs.Parameters.called Rattle.content.specs.Parameters.name_twice Rattle.content.specs.Parameters.token Rattle.content.specs.Parameters.value_type Rattle.content.specs.Parameters.without_value Rattle.content.specs.Parameters.is_base64 Rattle.content.specs.Parameters.encodes Rattle.content.specs.Parameters.is_encoded Rattle.content.specs.Parameters.without_encoding Rattle.content.specs.Parameters.staying Rattle.content.specs.Parameters.may_return Rattle.content.specs.Parameters.plain_or Rattle.content.specs.Parameters.members_of Rattle.content.specs.Write.asks_quotes Rattle.content.specs.Write.quoted_if Rattle.content.specs.Write.param_value_text Rattle.content.specs.Write.more_values Rattle.content.specs.Write.param_text Rattle.content.specs.Write.params_text Rattle.content.specs.Write.line_text Rattle.values.specs.Base64.sextet Rattle.values.specs.Base64.first_octet Rattle.values.specs.Base64.second_octet Rattle.values.specs.Base64.third_octet Rattle.values.specs.Base64.groups_decoded Rattle.values.specs.Base64.base64_of Rattle.values.specs.Base64.text_sent Rattle.values.specs.Read.read_plain Rattle.values.specs.Read.read_binary Rattle.values.specs.Read.as_string Rattle.values.specs.Read.as_number Rattle.values.specs.Read.period_of Rattle.values.specs.Read.read_period Rattle.values.specs.Read.geo_of Rattle.values.specs.Read.read_geo Rattle.values.specs.Read.two_or_three Rattle.values.specs.Read.read_status Rattle.values.specs.Read.read_text Rattle.values.specs.Read.read_one Rattle.values.specs.Read.values_in Rattle.values.specs.Read.read_values Rattle.values.specs.Read.values_of Rattle.values.specs.Recur.item_json Rattle.values.specs.Recur.part_members Rattle.values.specs.Recur.recur_of Rattle.values.specs.Recur.word_octet Rattle.values.specs.Recur.is_word Rattle.values.specs.Recur.is_integer Rattle.values.specs.Recur.is_until Rattle.values.specs.Recur.all_items Rattle.values.specs.Recur.some_items Rattle.values.specs.Recur.one_or_more Rattle.values.specs.Recur.kind_is Rattle.values.specs.Recur.kinds_are Rattle.values.specs.Recur.string_text Rattle.values.specs.Recur.item_text Rattle.values.specs.Recur.item_texts Rattle.values.specs.Recur.value_texts Rattle.values.specs.Recur.member_text Rattle.values.specs.Recur.member_texts Rattle.values.specs.Recur.rule_parts Rattle.values.specs.Recur.recur_is Rattle.values.specs.Recur.recur_text Rattle.values.specs.Simple.base64_octet Rattle.values.specs.Simple.unpadded Rattle.values.specs.Simple.binary_is Rattle.values.specs.Simple.boolean_of Rattle.values.specs.Simple.boolean_text Rattle.values.specs.Simple.pointed Rattle.values.specs.Simple.float_of Rattle.values.specs.Simple.in_range Rattle.values.specs.Simple.integer_of Rattle.values.specs.Sorts.sort_of Rattle.values.specs.Sorts.is_text Rattle.values.specs.Sorts.sort_splits Rattle.values.specs.Texts.escapes_next Rattle.values.specs.Texts.bare_from Rattle.values.specs.Texts.bare_split Rattle.values.specs.Texts.unescaped_octet Rattle.values.specs.Texts.unescaped_from Rattle.values.specs.Texts.unescaped Rattle.values.specs.Texts.fields Rattle.values.specs.Texts.text_is Rattle.values.specs.Texts.escaped_octet Rattle.values.specs.Texts.text_text Rattle.values.specs.Write.is_string Rattle.values.specs.Write.is_lettered Rattle.values.specs.Write.is_number Rattle.values.specs.Write.is_two Rattle.values.specs.Write.is_two_or_three Rattle.values.specs.Write.is_array Rattle.values.specs.Write.value_is Rattle.values.specs.Write.elements_text Rattle.values.specs.Write.period_text Rattle.values.specs.Write.value_text Rattle.values.specs.Write.values_are Rattle.values.specs.Write.values_text Rattle.conversion_theory.specs.Claim.excepted Rattle.conversion_theory.specs.Claim.as_unknown Rattle.conversion_theory.specs.Claim.read_as_older Rattle.conversion_theory.specs.Claim.params_read Rattle.conversion_theory.specs.Claim.property_text Rattle.conversion_theory.specs.Claim.those Rattle.conversion_theory.specs.Growth.behind_event Rattle.conversion_theory.specs.Growth.each_property Rattle.conversion_theory.specs.Growth.innermost Rattle.conversion_theory.specs.Growth.around Rattle.conversion_theory.specs.Growth.with_property Rattle.conversion_theory.specs.Growth.with_component Rattle.conversion_theory.specs.Growth.levels_from Rattle.conversion_theory.specs.Growth.outermost Rattle.conversion_theory.specs.Growth.tree_of Rattle.conversion_theory.specs.Jcal.property_json Rattle.conversion_theory.specs.Jcal.jcal_of Rattle.conversion_theory.specs.Jcal.jcals_of Rattle.conversion_theory.specs.Property.type_of Rattle.conversion_theory.specs.Property.code_of Rattle.conversion_theory.specs.Property.many_of Rattle.values.specs.Base64.binary_fits Rattle.values.specs.Base64.is_decoded Rattle.conversion_theory.specs.Property.decodes_in Rattle.conversion_theory.specs.Property.values_sent Rattle.conversion_theory.specs.Property.read_as Rattle.conversion_theory.specs.Property.read_property Rattle.conversion_theory.specs.Return.is_unknown Rattle.conversion_theory.specs.Return.stated_type Rattle.conversion_theory.specs.Return.states_plain Rattle.conversion_theory.specs.Return.encoding_fits Rattle.conversion_theory.specs.Return.written_sort Rattle.conversion_theory.specs.Return.first_octets Rattle.conversion_theory.specs.Return.taken_by Rattle.conversion_theory.specs.Return.checked Rattle.conversion_theory.specs.Return.is_default Rattle.conversion_theory.specs.Return.shown Rattle.conversion_theory.specs.Return.with_value Rattle.conversion_theory.specs.Return.written_line Rattle.conversion_theory.specs.Skeleton.is_json_string Rattle.conversion_theory.specs.Skeleton.is_list_of Rattle.conversion_theory.specs.Skeleton.is_parameter Rattle.conversion_theory.specs.Skeleton.are_parameters Rattle.conversion_theory.specs.Skeleton.is_property_name Rattle.conversion_theory.specs.Skeleton.is_property Rattle.conversion_theory.specs.Skeleton.is_component Rattle.conversion_theory.specs.Skeleton.is_calendar Rattle.conversion_theory.specs.Skeleton.values_from Rattle.conversion_theory.specs.Skeleton.params_from Rattle.conversion_theory.specs.Skeleton.property_from Rattle.conversion_theory.specs.Skeleton.component_from Rattle.conversion_theory.specs.Skeleton.calendar_of Rattle.conversion_theory.specs.Structure.bounds Rattle.conversion_theory.specs.Structure.event_of Rattle.conversion_theory.specs.Structure.left Rattle.conversion_theory.specs.Structure.nest Rattle.conversion_theory.specs.Structure.nest_after Rattle.conversion_theory.specs.Structure.verdict Rattle.conversion_theory.specs.Structure.structured Rattle.conversion_theory.specs.ToIcal.json_of Rattle.conversion_theory.specs.ToIcal.checked_all Rattle.conversion_theory.specs.ToIcal.begin_line Rattle.conversion_theory.specs.ToIcal.end_line Rattle.conversion_theory.specs.ToIcal.property_line Rattle.conversion_theory.specs.ToIcal.component_lines Rattle.conversion_theory.specs.ToIcal.forest_lines Rattle.conversion_theory.specs.ToIcal.written Rattle.conversion_theory.specs.ToIcal.to_ical Rattle.conversion_theory.specs.ToJcal.read_lines_by Rattle.conversion_theory.specs.ToJcal.read_lines Rattle.conversion_theory.specs.ToJcal.reading Rattle.conversion_theory.specs.ToJcal.to_jcal Rattle.conversion_theory.specs.Tree.forest_of Rattle.conversion_theory.specs.Tree.levels Rattle.conversion_theory.specs.Tree.levels_in Rattle.conversion_theory.specs.Tree.properties_of Rattle.conversion_theory.specs.Tree.properties_in
computed = (
  (refl, (refl, (refl, (refl, (refl, (refl, (refl, (refl, (refl, (refl, (refl, (refl, (refl, (refl, (refl, (refl, (refl, (refl, (refl, (refl, ((refl, refl), tt))))))))))))))))))))),
  record { old = refl; new = refl },
  record { reads = refl; older-reads = refl; excepts = refl; texts = each refl refl; short = each refl refl; returns = each (each refl refl) (each refl refl) },
  record { reads = refl; older-reads = refl; excepts = refl; texts = each refl refl; short = each refl refl; returns = each (each refl refl) (each refl refl) },
)

-- THE TABLE
pub all_hold : AllHold
all_hold = computed.0

-- THE INSTANCES
keeps : Keeps defaults grown
keeps e m = Memᴰ.append_left _ m

module _ {line : List ℕ} {held : Component} {has : Side → List ℕ} {back : Side → Side → List ℕ} (c : Computed line held has back) where
  agree : Agree no_rows added defaults grown (calendar line) newer_reading
  agree = tables_agree no_rows added defaults grown computed.1.old computed.1.new keeps (calendar line) newer_reading c.reads

  held-is : (a : Side) → side agree.held newer_reading a ≡ side held newer_reading a
  held-is older = accepted-same (sym agree.accepts ∙ c.older-reads)
  held-is newer = refl

  written : (a : Side) → agree.jcal a ≡ jcal (has a)
  written a = agree.printed a ∙ ap (λ (d : Component). print (jcal_of d)) (held-is a) ∙ at_side c.texts a

  comes_back : (a b : Side) → agree.again a b ≡ calendar (back a b)
  comes_back a b =
      let rows = side no_rows added b in
      let t : to_ical rows (agree.jcal a) ≡ accepted (calendar (back a b)) = ap (to_ical rows) (written a) ∙ at_side (at_side c.returns a) b in
      let s : length (agree.jcal a) ≤ most_text = rw (written a) (leb-true (length (jcal (has a))) most_text (at_side c.short a)) in
      writes-once (to_ical rows (agree.jcal a)) (agree.again a b) (calendar (back a b)) t (agree.return a b s)

  ages : Ages line has back
  ages = record {
    old = computed.1.old;
    new = computed.1.new;
    keeps = keeps;
    reads = c.reads;
    agree = agree;
    excepts = c.excepts;
    written = written;
    comes_back = comes_back;
  }

pub plain-ages : PlainAges
plain-ages = ages computed.2

pub encoded-ages : EncodedAges
encoded-ages = ages computed.3
