-- How runs end, and how a turn in front of a run makes a run.
use Rattle.std.proofs.Common.{◌≡◌, inl, inr, ℕ, suc, ◌+◌, List, [], ◌∷◌, ◌++◌, length, take, Option, Ok, Err, arith, refl, sym, ap, subst, ◌∙◌, append_assoc}
use Rattle.std.proofs.lemmas.List.{append-nil}
use Rattle.smore_base.specs.declared.geometry.Geometry.{Geometry}
use Rattle.smore_base.specs.Told.{Told}
use Rattle.smore_base.proofs.Told.{Told-same, Told-then}
use Rattle.zone_bay.specs.declared.bay.Bay as bay
use Rattle.zone_bay.specs.Bay.{BayState}
use Rattle.object_machine.specs.declared.op.Op.{Op}
use Rattle.object_machine.specs.declared.reply.Reply.{Reply}
use Rattle.object_machine.specs.declared.machine.Entry.{Entry}
use Rattle.object_machine.specs.Coding.{Coding}
use Rattle.store_core.specs.declared.store.Core.{Core}
use Rattle.store_core.specs.Core.{geometry_of, coding_of, told_store, Steps}
use Rattle.smore_top.specs.declared.end.End.{End}
use Rattle.smore_top.specs.declared.end.End.TheVariants.{Done, NoMemory, BadWords, SourceFailed, SinkFailed, BadFrame, NotOpened, NotFormatted}
use Rattle.smore_top.specs.End.{ArePut, EndsAsking, EndsSending, EndsOpen}
use Rattle.smore_top.specs.Frames.{reply_frame, reply_frames}
use Rattle.smore_top.specs.Answering.{StandsBehind, TakesLast, AsksCall, SendsReply}
use Rattle.smore_top.specs.Headline.{Sides, Ends, Ran, sides, IsPartPut, Transcript, moment_in, Runs, told_ends}
use Rattle.smore_top.specs.Turn.{Exchanges, Answers}
use Rattle.smore_top.proofs.Ends.{told_ends_by}

-- a run by its parts
abbrev pub ran : End → ℕ → List ℕ → Ran
ran end calls marks = record { end = end; calls = calls; marks = marks }

-- so many calls with these marks, and then a run
abbrev pub with_calls : ℕ → List ℕ → Ran → Ran
with_calls calls marks more = ran more.end (calls + more.calls) (marks ++ more.marks)

-- ---- by how a run ends

open_asking : (end : End) → EndsAsking end → EndsOpen end
open_asking Done asks = tt
open_asking NoMemory asks = tt
open_asking BadWords asks = absurd asks
open_asking SourceFailed asks = tt
open_asking SinkFailed asks = tt
open_asking BadFrame asks = tt
open_asking NotOpened asks = absurd asks
open_asking NotFormatted asks = absurd asks

open_sending : (end : End) → EndsSending end → EndsOpen end
open_sending Done sends = tt
open_sending NoMemory sends = tt
open_sending BadWords sends = absurd sends
open_sending SourceFailed sends = tt
open_sending SinkFailed sends = tt
open_sending BadFrame sends = tt
open_sending NotOpened sends = absurd sends
open_sending NotFormatted sends = absurd sends

none_put : (end : End) → EndsAsking end → ArePut end 0 0
none_put Done asks = refl
none_put NoMemory asks = inl refl
none_put BadWords asks = absurd asks
none_put SourceFailed asks = refl
none_put SinkFailed asks = absurd asks
none_put BadFrame asks = refl
none_put NotOpened asks = absurd asks
none_put NotFormatted asks = absurd asks

no_part : (end : End) → EndsAsking end → IsPartPut end [] []
no_part Done asks = refl
no_part NoMemory asks = refl
no_part BadWords asks = absurd asks
no_part SourceFailed asks = refl
no_part SinkFailed asks = absurd asks
no_part BadFrame asks = refl
no_part NotOpened asks = absurd asks
no_part NotFormatted asks = absurd asks

last_unput : (end : End) → EndsSending end → ArePut end 1 0
last_unput Done sends = absurd sends
last_unput NoMemory sends = inr refl
last_unput BadWords sends = absurd sends
last_unput SourceFailed sends = absurd sends
last_unput SinkFailed sends = refl
last_unput BadFrame sends = absurd sends
last_unput NotOpened sends = absurd sends
last_unput NotFormatted sends = absurd sends

nothing_behind : (coding : Coding) (end : End) (left : List ℕ) → EndsSending end → StandsBehind coding end [] left
nothing_behind coding Done left sends = absurd sends
nothing_behind coding NoMemory left sends = tt
nothing_behind coding BadWords left sends = absurd sends
nothing_behind coding SourceFailed left sends = absurd sends
nothing_behind coding SinkFailed left sends = refl
nothing_behind coding BadFrame left sends = absurd sends
nothing_behind coding NotOpened left sends = absurd sends
nothing_behind coding NotFormatted left sends = absurd sends

put_more : (end : End) (calls put : ℕ) → ArePut end calls put → ArePut end (suc calls) (suc put)
put_more Done calls put are = ap suc are
put_more NoMemory calls put (inl all) = inl (ap suc all)
put_more NoMemory calls put (inr but_one) = inr (omega (arith, but_one))
put_more BadWords calls put are = ap suc are
put_more SourceFailed calls put are = ap suc are
put_more SinkFailed calls put are = omega (arith, are)
put_more BadFrame calls put are = ap suc are
put_more NotOpened calls put are = ap suc are
put_more NotFormatted calls put are = ap suc are

-- nothing more in front of nothing more
twice_nothing : (held held' : List ℕ) → held' ≡ held → held' ≡ (held ++ []) ++ []
twice_nothing held held' same = same ∙ sym (append-nil held) ∙ sym (append-nil (held ++ []))

sent_part : (end : End) (entry : Entry) (held held' : List ℕ) → EndsSending end → SendsReply entry.reply (Err end) held held' → (part : List ℕ) × (held' ≡ (held ++ []) ++ part) × IsPartPut end (entry ∷ []) part
sent_part Done entry held held' sends sent = absurd sends
sent_part NoMemory entry held held' sends sent = ([], twice_nothing held held' sent, refl)
sent_part BadWords entry held held' sends sent = absurd sends
sent_part SourceFailed entry held held' sends sent = absurd sends
sent_part SinkFailed entry held held' sends sent = (sent.0, sent.4 ∙ ap (λ (l : List ℕ). l ++ sent.0) (sym (append-nil held)), (sent.1, sent.2, sent.3))
sent_part BadFrame entry held held' sends sent = absurd sends
sent_part NotOpened entry held held' sends sent = absurd sends
sent_part NotFormatted entry held held' sends sent = absurd sends

-- ---- a call more

transcript_more : (geometry : Geometry) (more : Ran) (entry : Entry) (entries : List Entry) (mark : ℕ) (x y z : Ends) → Exchanges geometry entry x y → Transcript geometry more entries y z → Transcript geometry (ran more.end (suc more.calls) (mark ∷ more.marks)) (entry ∷ entries) x z
transcript_more geometry more entry entries mark x y z first rest = record {
  calls = first.front ++ rest.calls;
  more = rest.more;
  taken = first.taken ∙ ap (λ (l : List ℕ). first.front ++ l) rest.taken ∙ sym (append_assoc first.front (rest.calls ++ rest.more) z.left) ∙ ap (λ (l : List ℕ). l ++ z.left) (sym (append_assoc first.front rest.calls rest.more));
  spelled = (first.front, rest.calls, refl, first.spelled, rest.spelled);
  behind = rest.behind;
  part = rest.part;
  put = rest.put ∙ ap (λ (l : List ℕ). l ++ rest.part) (ap (λ (l : List ℕ). l ++ reply_frames (take (length more.marks) entries)) first.put ∙ append_assoc x.held (reply_frame entry.reply) (reply_frames (take (length more.marks) entries)));
  part_put = rest.part_put;
  legal = (y.store, first.move, rest.legal);
}

-- ---- runs

module _ {B : Type 0} {g : bay.Ghosts B} (state : B → BayState) where
  -- the same run, its numbers in other words
  pub runs_as : (end : End) (calls calls' : ℕ) (marks marks' : List ℕ) (before after : Sides (Core B g)) → calls' ≡ calls → marks' ≡ marks → Runs state (ran end calls marks) before after → Runs state (ran end calls' marks') before after
  runs_as end calls calls' marks marks' before after same_calls same_marks run =
      subst (λ (n : ℕ). Runs state (ran end n marks') before after) (sym same_calls) (subst (λ (l : List ℕ). Runs state (ran end calls l) before after) (sym same_marks) run)

  -- no call was answered
  pub ends_asking : (end : End) (source source' sink : Option (List ℕ)) (core : Core B g) → EndsAsking end → Told source source' (TakesLast (coding_of (geometry_of core)) end) → Runs state (ran end 0 []) (sides source sink core) (sides source' sink core)
  ends_asking end source source' sink core asks taken = record {
    ends = open_asking end asks;
    entries = [];
    cores = [];
    leads = tt;
    last = refl;
    counted = refl;
    put = none_put end asks;
    marks = refl;
    told = told_ends_by source source' sink sink (told_store state core) (told_store state core) (TakesLast (coding_of (geometry_of core)) end) (λ b a. a ≡ b) (λ b a. a ≡ b) _ taken (Told-same sink _ (λ x. refl)) (Told-same (told_store state core) _ (λ x. refl))
        (λ left left' held held' store store' p q r. record {
          calls = [];
          more = p.0;
          taken = p.1;
          spelled = refl;
          behind = p.2;
          part = [];
          put = twice_nothing held held' q;
          part_put = no_part end asks;
          legal = r;
        });
  }

  -- nothing was taken either
  pub ends_idle : (source sink : Option (List ℕ)) (core : Core B g) → Runs state (ran NoMemory 0 []) (sides source sink core) (sides source sink core)
  ends_idle source sink core = ends_asking NoMemory source source sink core tt (Told-same source _ (λ left. ([], refl, tt)))

  module _ (op : Op) (reply : Reply) (source source' sink sink' : Option (List ℕ)) (core next : Core B g) (asked : Told source source' (AsksCall (coding_of (geometry_of core)) (Ok op))) (step : Steps state core op reply next) where
    entry : Entry
    entry = record { caller = 0; op = op; reply = reply }

    -- a call was answered, and its reply put
    pub answers : Told sink sink' (SendsReply reply (Ok tt)) → Answers state (sides source sink core) (sides source' sink' next)
    unfolding entry
    answers sent = record {
      entry = entry;
      steps = step;
      told = told_ends_by source source' sink sink' (told_store state core) (told_store state next) (AsksCall (coding_of (geometry_of core)) (Ok op)) (SendsReply reply (Ok tt)) _ _ asked sent step.told
          (λ left left' held held' store store' p q r. record { front = p.0; taken = p.1; spelled = p.2; put = q; move = r });
    }

    -- a call was answered, and its reply not put whole
    pub ends_sending : (end : End) → EndsSending end → Told sink sink' (SendsReply reply (Err end)) → Runs state (ran end 1 []) (sides source sink core) (sides source' sink' next)
    unfolding entry
    ends_sending end sends sent = record {
      ends = open_sending end sends;
      entries = entry ∷ [];
      cores = next ∷ [];
      leads = (step, tt);
      last = refl;
      counted = refl;
      put = last_unput end sends;
      marks = refl;
      told = told_ends_by source source' sink sink' (told_store state core) (told_store state next) (AsksCall (coding_of (geometry_of core)) (Ok op)) (SendsReply reply (Err end)) _ _ asked sent step.told
          (λ left left' held held' store store' p q r.
          let part = sent_part end entry held held' sends q in
          record {
            calls = p.0;
            more = [];
            taken = p.1 ∙ ap (λ (l : List ℕ). l ++ left') (sym (append-nil p.0));
            spelled = (p.0, [], sym (append-nil p.0), p.2, refl);
            behind = nothing_behind (coding_of (geometry_of core)) end left' sends;
            part = part.0;
            put = part.1;
            part_put = part.2;
            legal = (store', r, refl);
          });
    }

  -- no step changes how objects are cut and coded
  pub same_coding : (before after : Sides (Core B g)) → Answers state before after → coding_of (geometry_of after.works_on) ≡ coding_of (geometry_of before.works_on)
  same_coding before after answered = ap (λ a. coding_of a.geometry) answered.steps.array

  -- a call that was answered, and then a run
  pub one_more : (more : Ran) (before mid after : Sides (Core B g)) → Answers state before mid → Runs state more mid after → Runs state (ran more.end (suc more.calls) (moment_in state mid.works_on ∷ more.marks)) before after
  one_more more before mid after first rest =
      let same : geometry_of mid.works_on ≡ geometry_of before.works_on = ap (λ a. a.geometry) first.steps.array in
      let told = subst (λ (geometry : Geometry). Told (told_ends state mid) (told_ends state after) (Transcript geometry more rest.entries)) same rest.told in
      record {
        ends = rest.ends;
        entries = first.entry ∷ rest.entries;
        cores = mid.works_on ∷ rest.cores;
        leads = (first.steps, rest.leads);
        last = rest.last;
        counted = ap suc rest.counted;
        put = put_more more.end more.calls (length more.marks) rest.put;
        marks = ap (λ (l : List ℕ). moment_in state mid.works_on ∷ l) rest.marks;
        told = Told-then (told_ends state before) (told_ends state mid) (told_ends state after) _ _ _ first.told told (λ x y z p q. transcript_more (geometry_of before.works_on) more first.entry rest.entries (moment_in state mid.works_on) x y z p q);
      }

  -- After so many calls with these marks, each run from now on makes a run from the start.
  abbrev pub Continues : Sides (Core B g) → Sides (Core B g) → ℕ → List ℕ → Type 0
  Continues start now calls marks = (more : Ran) (after : Sides (Core B g)) → Runs state more now after → Runs state (with_calls calls marks more) start after

  pub starts : (start : Sides (Core B g)) (calls : ℕ) (marks : List ℕ) → calls ≡ 0 → marks ≡ [] → Continues start start calls marks
  starts start calls marks none unmarked more after run =
      runs_as more.end more.calls (calls + more.calls) more.marks (marks ++ more.marks) start after (omega (arith, none)) (ap (λ (l : List ℕ). l ++ more.marks) unmarked) run

  pub continues : (start now next : Sides (Core B g)) (calls : ℕ) (marks marks' : List ℕ) → Continues start now calls marks → Answers state now next → marks' ≡ marks ++ moment_in state next.works_on ∷ [] → Continues start next (calls + 1) marks'
  continues start now next calls marks marks' so_far answered marked more after run =
      let mark = moment_in state next.works_on in
      runs_as more.end (calls + suc more.calls) (calls + 1 + more.calls) (marks ++ mark ∷ more.marks) (marks' ++ more.marks) start after (omega arith)
      (ap (λ (l : List ℕ). l ++ more.marks) marked ∙ append_assoc marks (mark ∷ []) more.marks)
      (so_far (ran more.end (suc more.calls) (mark ∷ more.marks)) after (one_more more now next after answered run))

  -- a turn ends the run
  pub stops : (start now after : Sides (Core B g)) (calls all : ℕ) (marks marks' : List ℕ) (end : End) (more : ℕ) → all ≡ calls + more → marks' ≡ marks → Continues start now calls marks → Runs state (ran end more []) now after → Runs state (ran end all marks') start after
  stops start now after calls all marks marks' end more sum same so_far run =
      runs_as end (calls + more) all (marks ++ []) marks' start after sum (same ∙ sym (append-nil marks)) (so_far (ran end more []) after run)
