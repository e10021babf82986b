use Rattle.std.proofs.Common.{refl}
use Rattle.satip_entry_reader.specs.Reading.{bool_read, change_read, draw_read, fec_read, id_read, modulation_read, read_option, pol_read, ports_read, roll_off_read, system_read, u16_read, u32_read, u64_read, u8_read}
use Rattle.satip_entry_reader.specs.ReadingLists.{read_each, pid_read, pid_list_read}
use Rattle.satip_entry_reader.specs.ReadingRequests.{method_read, name_read, pids_given_read, query_read, refusal_read, request_read}
use Rattle.satip_entry_reader.specs.ReadingEvents.{ask_read, asked_read, close_read, ended_read, event_read, got_read, packet_read, pull_read, taken_read, tick_read}
use Rattle.satip_entry_reader.proofs.record_examples.worked_records.Goals as goal

pub returns-clause-stop : goal.returns-clause-stop
unfolding event_read asked_read got_read tick_read taken_read ended_read ask_read pull_read close_read packet_read request_read query_read change_read
    pids_given_read method_read refusal_read name_read pid_list_read pid_read read_each read_option bool_read ports_read id_read draw_read pol_read
    roll_off_read system_read modulation_read fec_read u64_read u32_read u16_read u8_read
returns-clause-stop c = refl

pub returns-clause-tick : goal.returns-clause-tick
unfolding event_read asked_read got_read tick_read taken_read ended_read ask_read pull_read close_read packet_read request_read query_read change_read
    pids_given_read method_read refusal_read name_read pid_list_read pid_read read_each read_option bool_read ports_read id_read draw_read pol_read
    roll_off_read system_read modulation_read fec_read u64_read u32_read u16_read u8_read
returns-clause-tick c = refl

pub returns-clause-setup : goal.returns-clause-setup
unfolding event_read asked_read got_read tick_read taken_read ended_read ask_read pull_read close_read packet_read request_read query_read change_read
    pids_given_read method_read refusal_read name_read pid_list_read pid_read read_each read_option bool_read ports_read id_read draw_read pol_read
    roll_off_read system_read modulation_read fec_read u64_read u32_read u16_read u8_read
returns-clause-setup c = refl

pub returns-clause-large_pid : goal.returns-clause-large_pid
unfolding event_read asked_read got_read tick_read taken_read ended_read ask_read pull_read close_read packet_read request_read query_read change_read
    pids_given_read method_read refusal_read name_read pid_list_read pid_read read_each read_option bool_read ports_read id_read draw_read pol_read
    roll_off_read system_read modulation_read fec_read u64_read u32_read u16_read u8_read
returns-clause-large_pid c = refl

pub returns-clause-short_list : goal.returns-clause-short_list
unfolding event_read asked_read got_read tick_read taken_read ended_read ask_read pull_read close_read packet_read request_read query_read change_read
    pids_given_read method_read refusal_read name_read pid_list_read pid_read read_each read_option bool_read ports_read id_read draw_read pol_read
    roll_off_read system_read modulation_read fec_read u64_read u32_read u16_read u8_read
returns-clause-short_list c = refl

pub returns-clause-tenth_kind : goal.returns-clause-tenth_kind
unfolding event_read asked_read got_read tick_read taken_read ended_read ask_read pull_read close_read packet_read request_read query_read change_read
    pids_given_read method_read refusal_read name_read pid_list_read pid_read read_each read_option bool_read ports_read id_read draw_read pol_read
    roll_off_read system_read modulation_read fec_read u64_read u32_read u16_read u8_read
returns-clause-tenth_kind c = refl
