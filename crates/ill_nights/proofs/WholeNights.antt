-- Proves that a library whose file can be read may have a whole night, in which no message file comes.
use Rattle.std.proofs.Common.{◌≡◌, inl, inr, Bool, List, [], ◌++◌, length, map, take, Some, None, Result, Ok}
use Rattle.std.proofs.Common.{refl, sym, ap, take_all, le_refl, true≢false}
use Rattle.ill_values.specs.declared.apdu.Apdu.{Apdu}
use Rattle.ill_der.specs.ShortForm.{apdu_at, header_at, outer_at}
use Rattle.ill_record.specs.Ranges.{Each}
use Rattle.ill_record.specs.Sides.{SidesOf}
use Rattle.ill_saved.specs.Holdings.{map_ok}
use Rattle.ill_record.specs.RecordsV2.{records_at}
use Rattle.ill_saved.specs.ManySides.{DeskContents, whole_of}
use Rattle.ill_text.specs.declared.fault.ToolFault.{ToolFault}
use Rattle.ill_text.specs.Input.{AreIn}
use Rattle.ill_text.specs.declared.form.Form.TheVariants.{Lines}
use Rattle.ill_desk.specs.Performing.{CommandState, command_state}
use Rattle.ill_night.specs.Outbox.{Issue, leaving_desk}
use Rattle.ill_exchange.specs.Nights.{AskedNight, ExchangesAt, Night, TakesMessageFiles, night_ending}
use Rattle.ill_runs.specs.Libraries.{Library}
use Rattle.ill_nights.specs.Nights.{IsNight}

-- Empty bytes encode an empty list of messages.
none_in : AreIn [] []
unfolding apdu_at outer_at header_at
none_in = (Ok [], ([], record { encoded = tt; parts = refl }, (refl, refl)))

-- A night without message files.
abbrev no_message_files : Night
no_message_files = record { verdicts = []; message_files = []; waiting = 0 }

module _ (others : List Apdu) (before : Library) (held : SidesOf) (read : records_at before.file ≡ Ok held) where
  -- The state of the command, from its start to its end.
  abbrev state : CommandState DeskContents
  state = command_state (record { path = None; live = whole_of held; committed = Some (Some before.file) }) None

  -- The messages that leave.
  abbrev leaving : List Apdu
  leaving = map (λ (issue : Issue). issue.apdu) (leaving_desk [] state.desk.live.held)

  -- The result of the night.
  abbrev result : Result Bool ToolFault
  result = night_ending state.desk.live.role no_message_files

  -- Of the messages that leave, the first ones up to their number are all.
  all_leave : leaving ≡ take (length leaving) leaving
  all_leave = sym (take_all (length leaving) leaving (le_refl (length leaving)))

  -- No message file is taken.
  abbrev none_taken : TakesMessageFiles Lines state (Ok no_message_files) state
  none_taken =
      inr ([], 0, Ok [], (tt, (refl, tt, (refl, λ changed. absurd (true≢false (sym changed))))), inl refl)

  -- The night has no day, and is told in lines.
  abbrev asked : AskedNight
  asked = record { form = Lines; dates = None }

  -- The night takes no message file, does no deed, and sends what wants sending.
  abbrev night : ExchangesAt asked state result state
  night = (
    state,
    Ok no_message_files,
    none_taken,
    (
      state,
      Ok tt,
      (refl, refl, refl),
      inr (Ok tt, inr ([], none_in, tt), inl refl),
      refl,
    ),
  )

  -- The library after the night.
  abbrev after : Library
  after = record { file = before.file; left = before.left ++ leaving }

  -- The night is whole.
  pub whole_night : (later : Library) × IsNight others before later
  unfolding Each
  whole_night = (
    after,
    record {
      command = record {
        old = state;
        new = state;
        leaving = leaving;
        starts = (ap (map_ok whole_of) read, refl);
        runs = (asked, result, night, tt, ([], length leaving, all_leave));
        committed = refl;
        left = refl;
      };
      asking = [];
      whole = (refl, refl);
    },
  )
